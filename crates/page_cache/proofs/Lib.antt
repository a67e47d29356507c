pub mod SlotLemmas
pub mod CacheLemmas
pub mod NumberLemmas
pub mod IndexLemmas
pub mod PageLemmas
pub mod LoopLemmas
pub mod CountLemmas
