use Rattle.tseen.proofs.OpeningShown.{opening_is_shown}
use Rattle.tseen.proofs.laws.the_opening_is_shown.Goals as goal

pub returns : goal.returns
returns c = opening_is_shown
