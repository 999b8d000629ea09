pub mod Rooms
pub mod Raster
pub mod Blocks
pub mod Marks
pub mod PlaceBits
pub mod Spots
pub mod SetRows
