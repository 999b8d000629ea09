pub mod Elimination
pub mod Lets
pub mod Unions
pub mod Projection
pub mod Sound
