pub mod Draining
pub mod Outboxes
pub mod Placing
pub mod Linking
pub mod Keeping
pub mod Words
pub mod Spelling
