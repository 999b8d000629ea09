pub mod Calls
pub mod Fills
pub mod Indices
pub mod Parts
pub mod Sizes
pub mod Steps
pub mod Tables
pub mod Whole
