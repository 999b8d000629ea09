pub mod Crews
pub mod Learning
pub mod Opening
pub mod Prepared
pub mod Private
pub mod Stages
pub mod Workers
