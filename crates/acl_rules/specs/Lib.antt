pub mod RightTexts
pub mod Entries
pub mod Lists
pub mod Decisions
