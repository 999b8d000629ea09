pub mod Regions
pub mod Needed
pub mod Sound
