-- What is printed of a run as JSON.
pub mod Json
pub mod Runs
pub mod Examples
