-- Where a net stands, histories and pictures as the events of a log are done, and disassemblies.
pub mod NetStanding
pub mod Histories
pub mod Charts
pub mod Labels
