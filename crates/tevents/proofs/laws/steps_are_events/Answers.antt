use Rattle.tevents.proofs.Steps.{steps_are_events}
use Rattle.tevents.proofs.laws.steps_are_events.Goals as goal

pub returns : goal.returns
returns c = steps_are_events
