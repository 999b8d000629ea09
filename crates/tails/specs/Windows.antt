-- Windows.
pub mod Spans
pub mod Arms
pub mod Laws
pub mod Nests
pub mod Shown
pub mod Worked
