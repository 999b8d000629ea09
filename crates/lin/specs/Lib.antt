pub mod Forms
pub mod Spans
pub mod Search
pub mod Regions
pub mod Laws
