mod Decided
mod Extents
mod Heads
mod Named
mod Grids
mod Told
mod Broken
mod OutputGroup
pub mod OfVerdict
mod Blocks
