-- joined clocks
pub mod ClockLemmas
-- modes
pub mod ModeLemmas
-- lists
pub mod Lists
-- what is kept of a place
pub mod Noting
-- what is kept of a place without a list
pub mod Briefly
-- what pages keep of all places
pub mod Tabling
-- what is kept of all places
pub mod Keeping
-- joins
pub mod Joining
-- accesses
pub mod Accessing
-- a step
pub mod Stepping
-- slots that are written, and what is added
pub mod Standing
-- covered accesses
pub mod Covering
-- what has passed
pub mod Passing
-- numbers
pub mod Renumbering
-- clocks that know all steps of an agent
pub mod Knowing
-- agents that share a number
pub mod Turning
-- how long nobody else knows of an access
pub mod Owning
-- steps that begin
pub mod Beginning
