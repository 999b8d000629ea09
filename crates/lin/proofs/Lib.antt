pub mod Limits
pub mod Machine
pub mod RegionLemmas
pub mod SearchLemmas
pub mod Soundness
pub mod TermLemmas
