pub mod Work
pub mod Complete
pub mod Seats
pub mod Desks
