pub mod Laws
pub mod Nest
pub mod Plain
pub mod Tests
pub mod Shown
pub mod Worked
