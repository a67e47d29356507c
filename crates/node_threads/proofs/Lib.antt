pub mod Slots
pub mod Groups
pub mod Beside
pub mod Chosen
pub mod Ending
pub mod Together
pub mod Recent
pub mod Scanning
