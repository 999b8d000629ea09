pub mod Layouts
pub mod Laws
pub mod Planes
