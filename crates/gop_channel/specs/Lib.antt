-- The words of frames that are taken from a queue and coded as jobs, whose packets are put into another, to be read in this
-- order: Messages, many messages put or taken; Taking, which frames are taken; Driving, how such a run ends; Working, what
-- contracts see of a worker.
pub mod Driving
pub mod Messages
pub mod Taking
pub mod Working
