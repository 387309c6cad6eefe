use Rattle.tverdict.proofs.Numbered.{places_are_numbered}
use Rattle.tverdict.proofs.laws.places_are_numbered.Goals as goal

pub returns : goal.returns
returns c = places_are_numbered
