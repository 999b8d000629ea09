pub mod Bounding
pub mod Nests
pub mod Widths
