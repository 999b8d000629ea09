mod Asked
mod Binders
mod Calls
mod Intervals
mod Limits
mod Named
mod Scopes
mod Same
mod Suited
pub mod Blocks
pub mod Chains
pub mod Ends
pub mod Functions
pub mod Stores
pub mod Lists
