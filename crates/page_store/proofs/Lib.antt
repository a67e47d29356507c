pub mod Orders
pub mod PlacedLemmas
pub mod HousedLemmas
pub mod Searched
pub mod Listed
pub mod VolumeLemmas
