-- The words of jobs coded side by side, to be read in this order: Jobs, how frames are split; Makers, what makes a job's coder;
-- JobCalls, the calls of a job's session; JobSessions, which results are a job's; Handing, how job numbers are handed out; Rows,
-- the results of jobs on a board; Packets, their packets in order; then, of the core, Core, what its steps do; Places, where each
-- job stands; CoreRuns, whole lists of steps and the laws over them.
pub mod Alone
pub mod Core
pub mod CoreFields
pub mod CoreRuns
pub mod Deposited
pub mod Encoding
pub mod FaultLaws
pub mod Gathering
pub mod Handing
pub mod JobCalls
pub mod JobLaws
pub mod JobSchedules
pub mod JobSessions
pub mod Jobs
pub mod Makers
pub mod Packets
pub mod PassFields
pub mod Places
pub mod Rows
pub mod Workers
