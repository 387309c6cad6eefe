-- Runs of machines of agents, and when all of them end alike.
-- the machine, its runs
pub mod Agents
-- races
pub mod Races
-- chains of steps
pub mod Chains
-- agents that share a number
pub mod Groups
-- vector clocks
pub mod Clocks
-- what is proved
pub mod Certificates
-- how many live at the same time
pub mod Crowds
-- places that are taken by turns
pub mod PlaceTurns
-- what clocks tell of chains
pub mod Times
-- machines whose steps keep to their places
pub mod Frames
-- a machine that is certified
pub mod Examples
-- a check in one pass
pub mod Tables
-- a machine in which steps lead to others
pub mod Meeting
-- machines of walkers, whose labels tell what their steps depend on
pub mod Walks
-- what has to be known of walkers
pub mod Tidy
-- the accesses of walkers, and the check of a run
pub mod WalkAccesses
-- walkers of which one run is a certificate
pub mod Family
