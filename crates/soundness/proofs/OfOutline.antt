pub mod Numerals
pub mod Noted
pub mod Ranges
pub mod Blocks
pub mod Named
