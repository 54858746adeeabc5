mod Feeding
mod Flushed
mod Given
mod HandedOn
mod Joins
mod LawsActs
mod LawsBegun
mod LawsCounted
mod LawsCourse
mod LawsEnds
mod LawsHanded
mod LawsLent
mod LawsReads
pub mod Making
mod Parts
mod Receiving
mod Sent
