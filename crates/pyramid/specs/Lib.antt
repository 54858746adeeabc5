-- The words of a plan, in the order in which they are best read: Numbers, Levels, Rows, Positions, RowCommand, Gop, Plan;
-- Known; Places, which Building builds for Schedules; Guess over them, with WalkBounds; Display, Playable and NamedPositions; the laws
-- over both in Laws, with MidGop and Moved. Subtypes has what rate control keeps apart. Settings gives the numbers.
pub mod AreSlots
pub mod Begins
pub mod Building
pub mod Display
pub mod Gop
pub mod Guess
pub mod Known
pub mod Laws
pub mod Levels
pub mod MidGop
pub mod Moved
pub mod NamedPositions
pub mod Numbers
pub mod Places
pub mod Plan
pub mod Playable
pub mod Positions
pub mod Refs
pub mod RowCommand
pub mod Rows
pub mod Schedules
pub mod Settings
pub mod Subtypes
pub mod WalkBounds
