pub mod Cells
pub mod Certificate
pub mod Lines
