-- The check of a run in one pass, and what it tells.
-- modes of accesses, and which of them collide
pub mod Modes
-- clocks
pub mod Clocks
-- the accesses of a place that are kept
pub mod Places
-- what the check keeps
pub mod Checks
-- how they are kept
pub mod Kept
-- how they are kept of all places
pub mod Tables
-- why an access is refused
pub mod Refusals
-- the numbers of what a machine has
pub mod Numbers
-- accesses of which nobody else knows
pub mod Own
-- what clocks and places have to do with steps
pub mod Followed
-- what is proved of a run
pub mod Laws
-- agents that share a number
pub mod NumberTurns
-- how long nobody else knows of an access
pub mod Owning
