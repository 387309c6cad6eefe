use Rattle.tseen.proofs.SkipsSeen.{skips_are_seen}
use Rattle.tseen.proofs.alternatives.enabled_skips_are_seen.Goals as goal

pub returns : goal.returns
returns c = skips_are_seen
