pub mod Places
pub mod Found
pub mod Looked
pub mod Laws
