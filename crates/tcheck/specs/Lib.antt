-- What is wrong with a net that is to be, and what is told of it.
pub mod Wrongs
pub mod PlanFaults
pub mod HoldWrongs
pub mod Checks
pub mod Sentences
pub mod Summaries
pub mod TextSentences
pub mod Lines
