pub mod Objects
pub mod HomeStates
pub mod Rules
pub mod Kept
pub mod Beginnings
pub mod Places
