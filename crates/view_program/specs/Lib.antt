pub mod Saying
pub mod Drawn
pub mod Read
pub mod Searches
pub mod Answers
