pub mod Causes
pub mod CollectedFacts
pub mod Entries
pub mod MetricFacts
pub mod Spelling
pub mod SummaryFacts
pub mod Written
