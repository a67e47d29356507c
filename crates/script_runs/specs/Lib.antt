pub mod Processes
pub mod Setups
pub mod Runs
pub mod Answers
pub mod Reports
pub mod Summaries
pub mod Histories
