pub mod Readings
pub mod PlainTexts
pub mod Words
pub mod Written
pub mod Spelling
pub mod Cutting
pub mod Again
