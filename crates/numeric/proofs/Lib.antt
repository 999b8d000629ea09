pub mod Comparisons
pub mod Ints
pub mod Numbers
pub mod Quotients
pub mod Wraps
