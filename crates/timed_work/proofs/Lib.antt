pub mod FourPrograms
pub mod Making
pub mod SettingUp
