pub mod Tallies
pub mod Adding
