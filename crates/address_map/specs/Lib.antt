pub mod Mappings
pub mod Runs
pub mod Maps
