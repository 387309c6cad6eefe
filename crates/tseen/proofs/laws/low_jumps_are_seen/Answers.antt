use Rattle.tseen.proofs.Jumps.{low_jumps_are_seen}
use Rattle.tseen.proofs.laws.low_jumps_are_seen.Goals as goal

pub returns : goal.returns
returns c = low_jumps_are_seen
