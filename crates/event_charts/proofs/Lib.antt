pub mod Lanes
pub mod Drawing
pub mod Slots
pub mod OneName
