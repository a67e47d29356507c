pub mod Counters
pub mod Counting
pub mod Starting
pub mod Sums
