-- What the steps of the generator find and keep. No public clause cites these, and they decide nothing.
pub mod Begun
pub mod Drawing
