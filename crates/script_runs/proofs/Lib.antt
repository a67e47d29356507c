pub mod ProcsWith
pub mod SettingUp
pub mod Running
pub mod Driven
pub mod Pacing
pub mod Faultless
pub mod Commands
pub mod Counting
