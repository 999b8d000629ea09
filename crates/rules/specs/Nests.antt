pub mod Last
pub mod View
