use Rattle.tfollow.proofs.True.{truth_is_kept}
use Rattle.tfollow.proofs.laws.truth_is_kept.Goals as goal

pub returns : goal.returns
returns c = truth_is_kept
