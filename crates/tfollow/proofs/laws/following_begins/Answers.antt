use Rattle.tfollow.proofs.Handing.{following_begins}
use Rattle.tfollow.proofs.laws.following_begins.Goals as goal

pub returns : goal.returns
returns c = following_begins
