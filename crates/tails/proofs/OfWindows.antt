pub mod Back
pub mod Beside
pub mod Computed
pub mod Loops
pub mod Parts
pub mod Sliding
pub mod Turns
