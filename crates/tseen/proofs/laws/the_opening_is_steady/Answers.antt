use Rattle.tseen.proofs.Steady.{opening_is_steady}
use Rattle.tseen.proofs.laws.the_opening_is_steady.Goals as goal

pub returns : goal.returns
returns c = opening_is_steady
