pub mod Wide
pub mod Plain
pub mod Worked
