pub mod Planes
pub mod Sizes
