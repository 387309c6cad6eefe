use Rattle.tevents.proofs.Shown.{freezes_are_shown}
use Rattle.tevents.proofs.laws.freezes_are_shown.Goals as goal

pub returns : goal.returns
returns c = freezes_are_shown
