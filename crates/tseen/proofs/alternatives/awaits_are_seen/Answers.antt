use Rattle.tseen.proofs.AltwtSeen.{awaits_are_seen}
use Rattle.tseen.proofs.alternatives.awaits_are_seen.Goals as goal

pub returns : goal.returns
returns c = awaits_are_seen
