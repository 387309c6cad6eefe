-- Rounds on one list of nodes, how they are shared out, and replays.
pub mod Rounds
pub mod RoundExamples
-- what the calls promise
pub mod Reports
pub mod GoingOn
pub mod Replays
pub mod Parts
pub mod Copies
pub mod Rows
pub mod RoundNodes
pub mod AwakeNodes
