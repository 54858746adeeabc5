pub mod NumberSteps
pub mod Validity
