use Rattle.tfollow.proofs.True.{true_refusals_tell_true_races}
use Rattle.tfollow.proofs.laws.true_refusals_tell_true_races.Goals as goal

pub returns : goal.returns
returns c = true_refusals_tell_true_races
