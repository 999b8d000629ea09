pub mod Count
pub mod Goals
pub mod Picture
pub mod Scopes
pub mod Seen
pub mod Sites
pub mod Stages
pub mod Works
