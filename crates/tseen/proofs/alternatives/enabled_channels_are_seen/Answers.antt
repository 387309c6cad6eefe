use Rattle.tseen.proofs.EnbcLaw.{enbc_is_seen}
use Rattle.tseen.proofs.alternatives.enabled_channels_are_seen.Goals as goal

pub returns : goal.returns
returns c = enbc_is_seen
