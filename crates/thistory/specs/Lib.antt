-- What is told of the history of a node.
pub mod Deeds
pub mod Halts
pub mod Lines
pub mod Steps
pub mod Unseen
pub mod Watch
