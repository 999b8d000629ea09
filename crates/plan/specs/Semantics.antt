pub mod Actions
pub mod Found
pub mod Memory
pub mod Run
pub mod Setting
pub mod Worked
