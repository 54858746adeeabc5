pub mod Cut
pub mod Moves
pub mod Tallies
pub mod Window
