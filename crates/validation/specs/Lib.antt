pub mod Certificate
pub mod Stored
pub mod Groups
pub mod Told
pub mod Wide
