pub mod Volumes
pub mod Rows
pub mod Stored
pub mod Placed
pub mod Housed
