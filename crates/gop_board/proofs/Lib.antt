mod Alike
mod Counts
pub mod Encodes
mod FaultPlans
mod FaultsApart
mod Filling
pub mod Gathers
mod Handed
mod JobRuns
mod Moves
mod NewRows
mod PacketOrder
mod Receiving
mod SameCalls
mod SameEntries
mod SameJobs
mod SameRuns
mod Sending
mod JobsAlone
mod SameBytes
mod Runs
mod Splitting
