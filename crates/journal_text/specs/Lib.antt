pub mod Lines
pub mod Buffers
pub mod Written
pub mod Faults
pub mod Walk
