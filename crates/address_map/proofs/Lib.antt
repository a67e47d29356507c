pub mod Keeps
pub mod Changes
