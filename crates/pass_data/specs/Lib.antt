pub mod Emitted
pub mod FileEnd
pub mod Given
pub mod LookAhead
pub mod Number
pub mod Packets
pub mod Pieces
pub mod Scales
