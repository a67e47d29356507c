pub mod Adding
pub mod Generating
