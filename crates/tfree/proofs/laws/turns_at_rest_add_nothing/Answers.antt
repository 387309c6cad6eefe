use Rattle.tfree.proofs.RestLaw.{turns_at_rest_add_nothing}
use Rattle.tfree.proofs.laws.turns_at_rest_add_nothing.Goals as goal

pub returns : goal.returns
returns c = turns_at_rest_add_nothing
