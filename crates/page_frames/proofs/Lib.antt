pub mod PoolLemmas
pub mod FrameLemmas
