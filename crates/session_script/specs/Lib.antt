pub mod Calls
pub mod Carried
pub mod Causes
pub mod Jobs
pub mod Outcomes
pub mod Passes
pub mod Program
pub mod Words
