pub mod Lines
pub mod Commas
pub mod Memories
pub mod NodeLines
