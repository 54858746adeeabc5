pub mod Below
pub mod Bits
pub mod Products
pub mod TableFacts
