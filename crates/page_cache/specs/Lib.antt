pub mod Caches
pub mod Changes
pub mod Victims
pub mod Numbers
pub mod Insides
