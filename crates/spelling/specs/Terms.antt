pub mod Spelling
pub mod Fitting
pub mod Reading
pub mod Laws
pub mod Worked
