-- The verdicts that each command may have, and the exit status of the program.
pub mod Statuses
