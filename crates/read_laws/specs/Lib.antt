pub mod Carrying
pub mod Loads
pub mod Staying
pub mod OnePlace
pub mod Readings
pub mod Asked
