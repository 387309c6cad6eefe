-- What the names of addresses mean.
pub mod Names
pub mod Lines
pub mod Texts
pub mod Nodes
pub mod Listings
pub mod Escapes
pub mod Examples
