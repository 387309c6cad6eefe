use Rattle.tseen.proofs.AltendSeen.{altend_is_seen}
use Rattle.tseen.proofs.alternatives.ends_of_alternatives_are_seen.Goals as goal

pub returns : goal.returns
returns c = altend_is_seen
