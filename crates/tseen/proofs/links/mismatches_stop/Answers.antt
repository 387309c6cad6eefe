use Rattle.tseen.proofs.Mismatches.{mismatches_stop}
use Rattle.tseen.proofs.links.mismatches_stop.Goals as goal

pub returns : goal.returns
returns c = mismatches_stop
