pub mod Counts
pub mod Tooks
pub mod Known
pub mod Calls
pub mod Sources
pub mod Sinks
