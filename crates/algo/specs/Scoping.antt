pub mod Doubles
pub mod Expressions
pub mod Keeping
pub mod Laws
pub mod Ranges
pub mod Standing
