pub mod Groups
pub mod Slots
pub mod Joined
pub mod Ran
pub mod Merges
pub mod Starts
