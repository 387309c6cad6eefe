-- The words of the command line, and the commands that they stand for.
pub mod Arguments
pub mod Addresses
pub mod NamesFiles
pub mod Table
pub mod CommandLines
