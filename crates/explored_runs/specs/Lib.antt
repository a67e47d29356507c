pub mod Came
pub mod Explored
pub mod Sought
