-- Nodes that are apart.
pub mod Frames
-- Who has a step.
pub mod Opens
-- Numbers of places.
pub mod Numbered
-- Runs that are over.
pub mod Ended
-- What stays where a node grows.
pub mod Staying
-- What stays of the machine then.
pub mod Grown
-- Agents that are apart.
pub mod Distinct
-- Notes that need not be told again.
pub mod Recalled
-- Steps that are told.
pub mod Told
pub mod Keeping
-- Agents that take numbers.
pub mod Taking
-- Berths of nodes.
pub mod Berths
pub mod Housed
pub mod FirstLodgings
-- Processes that have ended.
pub mod Gone
-- Steps that end.
pub mod Over
-- A call on a node has done a step.
pub mod Called
-- Agents that leads name.
pub mod Leads
-- Halves of a step at two nodes.
pub mod Half
pub mod AtTwo
-- What is offered behind the nodes.
pub mod Offered
-- The step of a wire.
pub mod Crossed
-- Steps at two nodes.
pub mod Wiring
-- The step of a process that listens.
pub mod Listened
-- Wires that have a step.
pub mod Wired
-- Agents that were not found.
pub mod Unlisted
-- Machines that are looked at.
pub mod Looked
-- The machine before the first step.
pub mod ImageWorkspaces
pub mod FoundAgents
pub mod Starting
-- Sources and sinks as places.
pub mod Scripted
-- Steps of a process that goes on.
pub mod Still
-- Quiet steps.
pub mod Quiet
-- Steps that were made.
pub mod Turned
