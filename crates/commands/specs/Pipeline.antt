pub mod Faults
pub mod Images
pub mod Texts
pub mod PlanFiles
pub mod Pictures
