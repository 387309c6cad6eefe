use Rattle.tseen.proofs.AltSeen.{alts_are_seen}
use Rattle.tseen.proofs.alternatives.alts_are_seen.Goals as goal

pub returns : goal.returns
returns c = alts_are_seen
