-- What is told of the end of a run: how it has ended, its dump, and in which lines two dumps differ.
pub mod Tellings
pub mod Differences
