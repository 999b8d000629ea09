pub mod Lines
pub mod Spelling
pub mod Order
pub mod Reading
pub mod Notation
pub mod File
