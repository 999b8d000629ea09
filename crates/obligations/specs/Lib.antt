pub mod Context
pub mod Asked
pub mod Around
pub mod Loads
pub mod Laws
