pub mod Bessel
pub mod Conversion
pub mod Exponential
pub mod Logarithm
pub mod Polynomial
pub mod Table
pub mod Within
