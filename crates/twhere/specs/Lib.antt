-- What is told of where the processes and the links of a net stand.
pub mod CircleExamples
pub mod Circles
pub mod ClosedPaths
pub mod NodeSets
pub mod Standing
pub mod Unseen
pub mod Waits
