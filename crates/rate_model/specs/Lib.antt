pub mod Curves
pub mod FrameSubtypes
pub mod Measure
pub mod Search
pub mod Subtype
