use Rattle.tseen.proofs.Succeeding.{last_ends_are_seen}
use Rattle.tseen.proofs.laws.last_ends_are_seen.Goals as goal

pub returns : goal.returns
returns c = last_ends_are_seen
