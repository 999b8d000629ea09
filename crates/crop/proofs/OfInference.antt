pub mod Unions
pub mod CallSound
pub mod NeededSound
pub mod Updates
pub mod Freed
