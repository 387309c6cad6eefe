use Rattle.tevents.proofs.Shown.{outcomes_are_shown}
use Rattle.tevents.proofs.laws.outcomes_are_shown.Goals as goal

pub returns : goal.returns
returns c = outcomes_are_shown
