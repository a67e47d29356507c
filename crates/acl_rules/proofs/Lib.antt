pub mod RightsRead
pub mod Reading
pub mod ReadAgain
pub mod OneText
pub mod FirstEntries
