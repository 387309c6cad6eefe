-- no race is left where a step is left out that no step before it has to come before
mod Lists
-- a step that can be done is moved to the front of a run without races
mod Fronted
-- each run is completed
pub mod Completed
-- chains told from their last step on
pub mod Traced
-- chains of steps tell races
pub mod Chained
-- agents that share a number
pub mod Grouped
-- lists in two parts
mod Parts
-- no run is crowded
pub mod Crowded
-- nor is one in parts
pub mod CrowdParts
-- places that are taken by turns
pub mod Handed
pub mod Turned
pub mod Placed
-- clocks tell chains, and so races
pub mod Timed
pub mod Counted
pub mod Clocked
-- machines whose steps keep to their places
pub mod Framed
-- a machine that is certified
pub mod Setters
-- a finer machine, seen as agents
pub mod Seen
-- a check in one pass, which may go by fewer leads
pub mod Checked
pub mod Fewer
-- a machine in which steps lead to others
pub mod Meetings
-- the steps of walkers
pub mod Walking
-- steps of walkers that do not clash
mod Apart
-- when the step of a walker leads to another
pub mod Leading
-- tidy walkers are lawful
pub mod Walked
-- careful walkers keep gates
pub mod Careful
-- clashes of walkers are told by their accesses, so a run that passes the check is the only one
pub mod WalkAccessed
-- an example of tidy walkers, and their run
mod Families
mod FamilyChecked
-- tests of lists
mod Found
