use Rattle.tseen.proofs.Stops.{stops_are_seen}
use Rattle.tseen.proofs.laws.stops_are_seen.Goals as goal

pub returns : goal.returns
returns c = stops_are_seen
