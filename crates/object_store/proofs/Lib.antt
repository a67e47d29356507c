pub mod RowLemmas
pub mod HomeLemmas
pub mod Closings
pub mod Begun
