use Rattle.tprocesses.proofs.Living.{living_are_counted}
use Rattle.tprocesses.proofs.laws.living_are_counted.Goals as goal

pub returns : goal.returns
returns c = living_are_counted
