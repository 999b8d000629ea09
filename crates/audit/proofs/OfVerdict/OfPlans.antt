pub mod Altered
pub mod Counted
pub mod Parts
pub mod Rules
pub mod Run
pub mod Summed
