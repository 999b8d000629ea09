pub mod Lines
pub mod Words
pub mod Sizes
pub mod Terms
