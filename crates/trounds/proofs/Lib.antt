-- rounds
pub mod RoundsRun
pub mod GoingOn
pub mod GoodHolds
-- what the calls do
pub mod Replaying
pub mod ReplayNotes
-- the parts of a round
pub mod PartBoxes
pub mod PartNets
pub mod PartNumbers
pub mod PartRounds
pub mod PartSteps
pub mod PartRooms
pub mod PartActs
pub mod PartRuns
pub mod PartRows
pub mod RowLists
pub mod PartLists
pub mod PartLoops
pub mod PartTurns
pub mod TakenOut
pub mod PartPackets
pub mod PartRests
-- which nodes may have something to do
pub mod AwakeBits
pub mod Skipped
