pub mod KeptPages
pub mod KeptObjects
pub mod KeptLocks
pub mod KeptMaps
pub mod KeptLengths
pub mod Kept
pub mod Plain
pub mod PlainRuns
