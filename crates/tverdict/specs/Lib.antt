-- The program that follows a run of the process machine of a plan and certifies the plan by it.
-- who has steps
pub mod Agents
-- the numbers of places
pub mod Numbers
-- the berths of nodes
pub mod Lodging
-- what stands at the places of the whole machine
pub mod Machines
-- a step at a node as one of the whole machine
pub mod Apart
-- the machine before the first step
pub mod Opening
-- what the program says
pub mod Verdicts
-- agents that come
pub mod Coming
-- steps that are told to the check
pub mod Told
-- a step as a call on one node
pub mod Calls
-- steps of a process that goes on and touches nothing new
pub mod Still
-- the step of an agent, from the call on
pub mod Stepping
-- the halves of a step at two nodes
pub mod Passing
-- steps that are done at two nodes
pub mod Wired
-- a process that listens to the input of a link
pub mod Listening
-- when a wire has a step
pub mod Wires
-- which agent makes the next step
pub mod Next
-- one step of the run
pub mod Turns
