-- What is given to nets, in definitions.
-- ends, and the wires of a plan
pub mod Wires
-- small plans
pub mod Examples
