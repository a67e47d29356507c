pub mod Repeating
pub mod Rounds
pub mod Teams
