pub mod Applied
pub mod Masks
