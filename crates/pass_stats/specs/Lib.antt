pub mod Bytes
pub mod Collected
pub mod Grammar
pub mod Metric
pub mod Summary
