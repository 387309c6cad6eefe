-- events that are enabled
pub mod Enabled
-- the event of a wire that comes next
pub mod WireSteps
-- events of which nothing is seen are few
pub mod Unseen
-- steps and runs
pub mod Towards
pub mod Steps
-- nets that come to rest
pub mod CanRest
-- what a plan's nets show
pub mod Shown
-- what is found and done for a move
pub mod MoveEvents
pub mod SeenOrNot
pub mod Doing
pub mod ManyMoves
pub mod Tested
