pub mod Crews
pub mod Decimals
pub mod Kept
pub mod OrderWords
pub mod Turns
pub mod Ways
mod Between
mod Coded
mod Compared
mod Cropped
mod Drawn
mod Failures
mod Formatted
mod LeftWords
mod Limits
mod Named
mod Prepared
mod Rooms
mod Samples
mod Sides
pub mod Sourced
mod Tiled
