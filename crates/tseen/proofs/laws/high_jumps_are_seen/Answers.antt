use Rattle.tseen.proofs.Jumps.{high_jumps_are_seen}
use Rattle.tseen.proofs.laws.high_jumps_are_seen.Goals as goal

pub returns : goal.returns
returns c = high_jumps_are_seen
