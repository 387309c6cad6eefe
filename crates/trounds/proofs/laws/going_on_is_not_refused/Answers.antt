use Rattle.trounds.proofs.GoodHolds.{not_refused}
use Rattle.trounds.proofs.laws.going_on_is_not_refused.Goals as goal

pub returns : goal.returns
returns c = not_refused
