-- What the program makes of the words that it was called with.
pub mod Asking
pub mod Words
