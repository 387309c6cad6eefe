use Rattle.tseen.proofs.YieldShown.{yields_are_seen}
use Rattle.tseen.proofs.laws.yields_are_seen.Goals as goal

pub returns : goal.returns
returns c = yields_are_seen
