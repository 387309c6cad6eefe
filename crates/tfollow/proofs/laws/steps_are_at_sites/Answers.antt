use Rattle.tfollow.proofs.Sited.{steps_are_at_sites}
use Rattle.tfollow.proofs.laws.steps_are_at_sites.Goals as goal

pub returns : goal.returns
returns c = steps_are_at_sites
