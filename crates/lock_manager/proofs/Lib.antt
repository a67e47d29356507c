pub mod Conflicts
pub mod Places
pub mod Keeps
pub mod LookUps
