mod Comparisons
mod Compiled
mod Explained
mod Planned
mod Schedules
mod Streams
mod Worded
mod Limited
