use Rattle.tseen.proofs.Wakes.{wakes_are_seen}
use Rattle.tseen.proofs.links.wakes_are_seen.Goals as goal

pub returns : goal.returns
returns c = wakes_are_seen
