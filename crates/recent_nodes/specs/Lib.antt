pub mod NodesByUse
