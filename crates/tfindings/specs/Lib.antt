-- What is printed of a run of the process machine.
-- agents
pub mod Agents
-- memories
pub mod Cells
-- the end of a run
pub mod Ends
-- places, and how they are accessed
pub mod Places
-- why a step stops
pub mod Refusals
-- what is printed of a run
pub mod Telling
-- what is told of a verdict
pub mod Findings
-- steps that are told, by a run that is made again
pub mod Steps
-- what a certified run tells of all runs
pub mod Nets
