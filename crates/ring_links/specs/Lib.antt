pub mod Carried
pub mod Later
pub mod Merged
pub mod Notices
pub mod Ranks
