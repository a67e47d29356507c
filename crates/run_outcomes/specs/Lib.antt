pub mod Outcomes
pub mod Tallies
pub mod Counts
pub mod Differing
