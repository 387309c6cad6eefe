use Rattle.tseen.proofs.DispatchShown.{dispatches_are_seen}
use Rattle.tseen.proofs.laws.dispatches_are_seen.Goals as goal

pub returns : goal.returns
returns c = dispatches_are_seen
