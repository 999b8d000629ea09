mod Counts
mod Firsts
mod Together
mod Shared
