-- How steps of the rendezvous machine are done by events of a net of packets.
pub mod Events
-- how the events of a step are found
pub mod Finding
-- how the events of steps are done and logged
pub mod Doing
