pub mod KeptCalls
pub mod LookedNumbers
