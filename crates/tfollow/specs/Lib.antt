-- A program that runs the process machine of a plan and tells each step to the check of races follows a run of it.
-- modes of accesses
pub mod Modes
-- numbers of agents
pub mod Numbering
-- steps that lead to those of others
pub mod Leading
-- what a program that follows a run knows
pub mod Following
-- how it goes on, and what it knows at the end
pub mod Laws
-- notes that are told
pub mod Telling
-- who has a step, and whom it leads to
pub mod Opening
-- numbers and modes that are computed
pub mod Examples
-- races of which all is true
pub mod Truth
-- steps at nodes
pub mod Sites
-- berths that processes take by turns
pub mod Lodging
