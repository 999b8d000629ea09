pub mod Answer
pub mod Compares
pub mod Compiles
pub mod Compiling
pub mod Faults
