pub mod Generated
pub mod Walk
