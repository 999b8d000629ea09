pub mod Blocks
pub mod Hist
pub mod Inc
pub mod Near
pub mod Scan
pub mod Slide
