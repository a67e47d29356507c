pub mod Lists
pub mod Outcomes
pub mod Halves
pub mod FirstLines
