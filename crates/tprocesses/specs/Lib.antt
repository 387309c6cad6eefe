-- The process machine: a net of transputers as processes that meet.
-- places and names
pub mod Places
-- what may stand there
pub mod Values
-- how it changes
pub mod Changes
-- steps, part by part
pub mod Parts
-- touches of the memory
pub mod Touching
-- actions over places
pub mod Performing
-- processes that come, wait and end
pub mod Standing
-- messages
pub mod ChannelMessages
pub mod LinkMessages
-- alternatives
pub mod Choosing
-- what an instruction needs to know
pub mod Uses
-- operations of the scheduler
pub mod Scheduling
-- instructions
pub mod Instructions
-- what instructions depend on
pub mod Depending
-- agents and their steps
pub mod Machine
-- before the first step
pub mod Opening
-- what a run certifies
pub mod Certified
-- what a step shows of the processes that it begins and ends
pub mod Lives
-- runs of small programs
pub mod Examples
pub mod LinkExamples
