pub mod Fills
pub mod Levels
pub mod Moves
pub mod Powers
