pub mod KeptLocks
pub mod KeptMaps
pub mod MapReplies
pub mod PageBytes
pub mod PlainRuns
pub mod PlainEntries
pub mod Counters
