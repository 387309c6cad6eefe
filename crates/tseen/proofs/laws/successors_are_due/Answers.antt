use Rattle.tseen.proofs.Succeeding.{successors_are_due}
use Rattle.tseen.proofs.laws.successors_are_due.Goals as goal

pub returns : goal.returns
returns c = successors_are_due
