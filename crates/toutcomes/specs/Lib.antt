-- The text of explorations, and logs of the outcomes that they tell.
pub mod Told
pub mod Explores
pub mod Logged
pub mod Standings
