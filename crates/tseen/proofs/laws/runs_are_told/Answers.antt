use Rattle.tseen.proofs.Grown.{runs_are_told}
use Rattle.tseen.proofs.laws.runs_are_told.Goals as goal

pub returns : goal.returns
returns c = runs_are_told
