pub mod Pools
pub mod Codes
pub mod Insides
pub mod Lending
