pub mod Naming
pub mod Telling
pub mod Talking
pub mod Checking
