pub mod Grants
pub mod Tables
