pub mod Keeps
pub mod Passes
pub mod Readings
pub mod Selection
