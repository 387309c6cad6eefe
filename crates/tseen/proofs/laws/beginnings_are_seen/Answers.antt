use Rattle.tseen.proofs.Beginnings.{beginnings_are_seen}
use Rattle.tseen.proofs.laws.beginnings_are_seen.Goals as goal

pub returns : goal.returns
returns c = beginnings_are_seen
