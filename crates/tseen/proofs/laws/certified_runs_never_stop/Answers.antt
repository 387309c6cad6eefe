use Rattle.tseen.proofs.Certified.{certified_runs_never_stop}
use Rattle.tseen.proofs.laws.certified_runs_never_stop.Goals as goal

pub returns : goal.returns
returns c = certified_runs_never_stop
