use Rattle.trounds.proofs.GoingOn.{rounds_go_on}
use Rattle.trounds.proofs.laws.rounds_go_on.Goals as goal

pub returns : goal.returns
returns c = rounds_go_on
