pub mod Given
pub mod Owned
pub mod Points
pub mod Sets
