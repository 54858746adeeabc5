pub mod Logs
pub mod Passing
