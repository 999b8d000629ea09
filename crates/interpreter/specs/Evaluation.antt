pub mod Indices
pub mod Lanes
pub mod Repeats
pub mod Multiples
pub mod Quotients
pub mod Words
pub mod Lending
pub mod LentPairs
