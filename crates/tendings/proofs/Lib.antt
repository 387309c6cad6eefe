pub mod NodeLists
mod EntryTests
mod Headings
mod Lines
mod RoleDumps
