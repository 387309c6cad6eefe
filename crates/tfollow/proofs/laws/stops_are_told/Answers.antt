use Rattle.tfollow.proofs.Stepping.{stops_are_told}
use Rattle.tfollow.proofs.laws.stops_are_told.Goals as goal

pub returns : goal.returns
returns c = stops_are_told
