pub mod Ready
pub mod Lists
pub mod View
pub mod Output
