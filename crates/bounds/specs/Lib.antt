pub mod Lists
pub mod Spans
pub mod Interval
pub mod Sound
pub mod Projection
