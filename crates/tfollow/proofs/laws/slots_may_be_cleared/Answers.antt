use Rattle.tfollow.proofs.Handing.{slots_may_be_cleared}
use Rattle.tfollow.proofs.laws.slots_may_be_cleared.Goals as goal

pub returns : goal.returns
returns c = slots_may_be_cleared
