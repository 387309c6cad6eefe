use Rattle.tseen.proofs.Ended.{ends_are_seen}
use Rattle.tseen.proofs.laws.ends_are_seen.Goals as goal

pub returns : goal.returns
returns c = ends_are_seen
