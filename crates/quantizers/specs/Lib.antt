pub mod Bounds
pub mod Chroma
pub mod Flat
pub mod Nearest
pub mod Parameters
pub mod Tables
