pub mod Built
pub mod Filled
pub mod Limits
pub mod PutIn
pub mod Table
pub mod Kinds
