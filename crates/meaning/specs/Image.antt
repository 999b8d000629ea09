pub mod Laws
pub mod Raster
pub mod View
