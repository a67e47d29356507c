pub mod FrameCounts
pub mod NodeCounts
pub mod CommandCounts
pub mod PageCounts
