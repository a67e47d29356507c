pub mod Walked
pub mod Shown
