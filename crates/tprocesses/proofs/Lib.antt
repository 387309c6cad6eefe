-- whether agents and places are the same
mod Told
-- what instructions depend on
pub mod Depended
pub mod Flagged
-- changes that commute, and changes that awaken
mod Changing
-- parts of steps that spare gates
mod Safe
mod SafeTouches
-- whose gate each place is
mod Gates
-- the steps of agents
mod SafeParts
mod SafeLinks
mod SafeChoices
mod SafeMessages
mod SafeSteps
-- what steps begin and end
mod Quiet
mod Plain
mod PlainChoices
mod PlainLinks
pub mod Leaving
pub mod Tally
pub mod StepsTallied
mod Stood
mod StepsStood
-- how many live
pub mod Living
-- what a step shows of those that begin and end
pub mod Lived
-- that a process that has ended stays so
mod Avoiding
mod AvoidingMessages
mod AvoidingChoices
pub mod EndedStay
-- all of it
pub mod Tidy
