pub mod Calls
pub mod Folds
pub mod Forms
pub mod Handing
pub mod Hist
pub mod Kept
pub mod Learned
pub mod Meant
pub mod Ongoing
pub mod Refines
pub mod Renamed
pub mod Rows
pub mod Runs
pub mod Scan
pub mod ScanMeant
pub mod Shown
pub mod Slide
pub mod Sliding
pub mod Sound
pub mod Stored
pub mod Turns
pub mod Updates
pub mod Whole
pub mod Windows
pub mod Written
mod Accepted
mod Computed
mod Coordinates
mod Counted
mod Fetched
mod Filled
mod Near
mod Ordered
mod Right
mod Same
mod Steps
mod Touched
mod Visits
pub mod OfOutline
