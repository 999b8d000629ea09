pub mod Sizes
pub mod Free
pub mod Lanes
pub mod Lines
pub mod Here
pub mod Inside
pub mod Wrong
pub mod Laws
