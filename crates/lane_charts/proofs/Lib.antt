pub mod Again
pub mod Keyed
pub mod ByRow
pub mod Lines
