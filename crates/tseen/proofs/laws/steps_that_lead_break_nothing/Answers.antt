use Rattle.tseen.proofs.Freezing.{steps_that_lead_break_nothing}
use Rattle.tseen.proofs.laws.steps_that_lead_break_nothing.Goals as goal

pub returns : goal.returns
returns c = steps_that_lead_break_nothing
