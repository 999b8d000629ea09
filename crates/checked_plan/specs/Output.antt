pub mod Axes
pub mod Cells
