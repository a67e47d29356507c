-- What the steps of the reader find and keep. No public clause cites these, and they decide nothing.
pub mod Heads
pub mod Fields
pub mod LineStarts
pub mod LineEffects
pub mod EffectTexts
