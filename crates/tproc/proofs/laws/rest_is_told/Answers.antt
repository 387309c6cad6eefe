use Rattle.tproc.proofs.Resting.{step_is_there, rest_changes_nothing, halting_halts}
use Rattle.tproc.proofs.laws.rest_is_told.Goals as goal

pub returns : goal.returns
returns c = record { there = step_is_there; rests = rest_changes_nothing; halts = halting_halts }
