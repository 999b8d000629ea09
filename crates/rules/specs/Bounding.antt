pub mod Called
pub mod Held
pub mod Kept
pub mod Laws
pub mod Rules
pub mod Scopes
pub mod Seats
pub mod View
