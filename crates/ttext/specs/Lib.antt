-- The text of runs and replays of wirings and images.
pub mod PrintedRuns
pub mod Outcomes
pub mod Commands
pub mod Free
