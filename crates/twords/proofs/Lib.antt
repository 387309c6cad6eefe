pub mod AcceptedRows
mod Digits
mod NodeNumbers
pub mod WordWalks
pub mod LevelRows
pub mod WordAnswers
mod JoinedWords
pub mod WordReads
pub mod WordParsers
mod Refusals
