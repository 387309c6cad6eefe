use Rattle.tprocesses.proofs.Living.{places_let_few_live}
use Rattle.tprocesses.proofs.laws.places_let_few_live.Goals as goal

pub returns : goal.returns
returns c = places_let_few_live
