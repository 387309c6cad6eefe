-- What lists contain.
pub mod Listed
-- Modes of accesses.
pub mod Moded
-- Numbers of agents.
pub mod Numbered
-- Steps that lead to others.
pub mod Led
-- Numbers that agree on steps.
pub mod Agreeing
-- Steps that are counted.
pub mod Counting
-- Runs that go on.
pub mod Running
-- Slots that are written.
pub mod Handing
-- Numbers that are given.
pub mod Renumbered
-- Agents and places that come.
pub mod Growing
-- Numbers that are taken.
pub mod Taking
-- The end of a run.
pub mod Ending
-- Gates that a step looks at.
pub mod Looked
-- Steps that are told.
pub mod Stepping
-- Gates that are seen shut.
pub mod Shut
-- What holds of each change.
pub mod Each
-- Parts that count nothing down.
pub mod Even
-- Counts that fall alone.
pub mod Alone
-- Counts that fall.
pub mod Counted
-- Notes that are told.
pub mod Telling
-- Accesses that are refused.
pub mod Refused
-- Who has a step.
pub mod Opened
-- What is true of races.
pub mod True
-- Steps at nodes.
pub mod Sited
-- Steps that a clock has counted.
pub mod Chained
-- Names of lodgers.
pub mod Named
-- Berths that are taken and left.
pub mod Lodged
