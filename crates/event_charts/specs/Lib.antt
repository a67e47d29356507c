pub mod ChartsOfRuns
pub mod LentViews
pub mod Slots
