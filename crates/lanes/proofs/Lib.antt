pub mod OfVectors
pub mod Wrapped
pub mod OfMasks
