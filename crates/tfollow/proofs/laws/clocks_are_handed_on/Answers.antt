use Rattle.tfollow.proofs.Handing.{clocks_are_handed_on}
use Rattle.tfollow.proofs.laws.clocks_are_handed_on.Goals as goal

pub returns : goal.returns
returns c = clocks_are_handed_on
