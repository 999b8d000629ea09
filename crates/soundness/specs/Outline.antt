pub mod Refusals
pub mod View
pub mod Rooms
pub mod Claims
pub mod Forms
pub mod Flaws
pub mod Kept
