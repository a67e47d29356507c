pub mod Said
pub mod Commands
pub mod Runs
pub mod Labels
pub mod CommandWords
pub mod LineWords
pub mod Chosen
pub mod Differing
