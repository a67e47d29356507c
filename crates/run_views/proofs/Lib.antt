pub mod Walking
pub mod RisingRuns
