use Rattle.tseen.proofs.DiscLaw.{disc_is_seen}
use Rattle.tseen.proofs.alternatives.disabled_channels_are_seen.Goals as goal

pub returns : goal.returns
returns c = disc_is_seen
