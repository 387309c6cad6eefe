-- Faults, verdicts, the opening of a net, and the events of a log.
pub mod Plans
pub mod Openings
pub mod Faults
pub mod FaultLines
pub mod LogEvents
pub mod Verdicts
pub mod Endings
