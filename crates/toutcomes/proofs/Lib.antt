pub mod SmallNets
pub mod ToldOnce
mod OutcomeLists
mod StandingLists
mod Explorations
