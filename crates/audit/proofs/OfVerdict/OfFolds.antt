pub mod Tests
pub mod Owed
pub mod Search
pub mod Small
pub mod Leveled
pub mod Plans
pub mod SlideRaised
