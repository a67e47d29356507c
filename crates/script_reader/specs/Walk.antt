-- What the steps of the reader find and keep. No public clause cites these, and they decide nothing.
pub mod Seen
pub mod Formed
pub mod Found
pub mod Index
pub mod Named
pub mod Placed
pub mod Notes
pub mod Starts
pub mod Drafts
pub mod Inside
pub mod Results
