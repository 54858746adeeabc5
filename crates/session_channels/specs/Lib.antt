-- The words of channels, to be read in this order: Queues, what every queue means; LocalQueues, the one in memory; SharedQueues,
-- what a handle on a shared queue counts; NoQueues, what stands where there is none; Ends, what contracts see of the ends of a
-- channel, and what each of their calls makes of a turn of its queue; Acts, what a worker does between its queues and when;
-- Courses, a stretch of that, and why it ends early; Wells, what stands of its session on the way; Drives, the whole;
-- Channels, a channel as it is made; Working, a worker's run.
pub mod Acts
pub mod Channels
pub mod Courses
pub mod Drives
pub mod Ends
pub mod LocalQueues
pub mod NoQueues
pub mod Queues
pub mod SharedQueues
pub mod Wells
pub mod Working
