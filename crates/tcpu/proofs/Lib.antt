-- signed words as machine numbers
pub mod SignedWords
-- shifts that lose nothing
pub mod Normal
-- local effects deschedule nobody
pub mod Quiet
-- writes of words that are not marked
pub mod Marked
-- instructions after which their process goes on
pub mod Stretches
-- so by the codes of their functions
pub mod Rows
-- local effects write within the bytes that they may write
pub mod Writing
