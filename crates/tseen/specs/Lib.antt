-- What the process machine shows of the rendezvous machine.
-- what is known of registers and bytes
pub mod Known
-- where the processes of a processor are
pub mod Seats
-- what is pending at the outputs of links
pub mod Outputs
-- words, and what they are in use for
pub mod Words
-- alternatives
pub mod Choices
-- channels and links
pub mod Halves
-- the processes of a node
pub mod Processes
-- sources and sinks
pub mod Scripts
-- the whole net
pub mod Shown
-- own steps of a node, and steps of its current process
pub mod Steps
-- steps of any agent
pub mod AgentSteps
-- processes that end together, and their successor
pub mod Ended
-- nets at rest
pub mod Rest
-- operations that begin a process
pub mod Begun
-- messages on internal channels
pub mod Messages
-- operations of alternatives
pub mod Alternatives
-- own steps that break no rule
pub mod Freezes
-- what holds all along a run
pub mod Throughout
-- low processes that high ones interrupt
pub mod Interrupting
-- messages on links
pub mod Linked
-- messages that wires have carried
pub mod Carried
-- all runs of a net
pub mod Whole
-- all nets of packets
pub mod Packets
