pub mod Rows
pub mod Carrying
pub mod Wires
pub mod Sample
pub mod Spelt
pub mod Outboxes
