pub mod Cut
pub mod File
