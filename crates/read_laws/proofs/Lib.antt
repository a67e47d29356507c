pub mod Faults
pub mod Kept
pub mod Reading
pub mod Holding
pub mod Excluding
pub mod Staying
pub mod OnePlace
pub mod Asked
