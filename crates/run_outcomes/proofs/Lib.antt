pub mod Pairs
pub mod UpTo
pub mod Added
pub mod BestRows
pub mod Same
pub mod Counted
pub mod Joined
