pub mod Blocks
pub mod Spelling
pub mod Fitting
pub mod Reading
pub mod Notation
pub mod Reader
pub mod Writing
