pub mod Accepted
pub mod Most
pub mod OnePiece
pub mod Outputs
pub mod Repeated
pub mod Seated
