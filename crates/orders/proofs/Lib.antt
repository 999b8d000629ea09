pub mod Steady
pub mod Alone
pub mod Claiming
pub mod Marking
pub mod Verdict
pub mod Runs
pub mod RunLists
