pub mod Sizes
pub mod Definitions
pub mod Alike
pub mod Stored
