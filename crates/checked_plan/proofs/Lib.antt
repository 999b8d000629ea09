pub mod Ends
pub mod Lists
pub mod Named
pub mod Plans
pub mod Ranks
pub mod Regions
pub mod Spans
pub mod Following
