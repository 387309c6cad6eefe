use Rattle.trounds.proofs.RoundsRun.{rounds_are_run}
use Rattle.trounds.proofs.laws.rounds_are_a_run.Goals as goal

pub returns : goal.returns
returns c = rounds_are_run
