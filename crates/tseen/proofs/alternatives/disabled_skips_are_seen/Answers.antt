use Rattle.tseen.proofs.DissSeen.{diss_is_seen}
use Rattle.tseen.proofs.alternatives.disabled_skips_are_seen.Goals as goal

pub returns : goal.returns
returns c = diss_is_seen
