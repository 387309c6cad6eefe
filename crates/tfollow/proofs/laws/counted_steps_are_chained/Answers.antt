use Rattle.tfollow.proofs.Chained.{counted_steps_are_chained}
use Rattle.tfollow.proofs.laws.counted_steps_are_chained.Goals as goal

pub returns : goal.returns
returns c = counted_steps_are_chained
