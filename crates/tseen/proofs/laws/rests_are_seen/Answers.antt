use Rattle.tseen.proofs.RestLinks.{rests_are_seen}
use Rattle.tseen.proofs.laws.rests_are_seen.Goals as goal

pub returns : goal.returns
returns c = rests_are_seen
