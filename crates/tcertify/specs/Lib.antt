-- The process machine as a program: what its calls do.
-- bytes that may not be known
pub mod Cells
-- parts of steps on a state
pub mod Running
-- notes of what was touched
pub mod Priorities
pub mod Notes
-- words of a node as places
pub mod Words
-- spans of words
pub mod Spans
-- what an instruction answered
pub mod Instructions
-- steps as runs
pub mod Walked
-- contexts, and what instructions use
pub mod Contexts
-- instructions, up to what follows them
pub mod Carried
-- where a process stands
pub mod Standing
-- things that are found by keys
pub mod Finding
-- halves of channels
pub mod Sides
-- processes, channels and workspaces of a node
pub mod Processes
pub mod Fingerprints
pub mod Channels
pub mod Lives
-- outputs that are over
pub mod Outputs
-- processes that begin, and flags
pub mod Starts
pub mod Flags
-- what a node has except for its words
pub mod Boards
-- what parts see
pub mod Seeing
-- a node as places
pub mod Nodes
-- parts of operations of the scheduler, and of steps
pub mod Scheduling
pub mod Steps
-- the commonest instructions
pub mod Common
-- steps that touch nothing new
pub mod Quiet
-- parts of messages, and of alternatives
pub mod Messages
pub mod Choosing
-- nodes before the first step
pub mod Opened
pub mod NodeOpened
-- sources and sinks
pub mod Ends
