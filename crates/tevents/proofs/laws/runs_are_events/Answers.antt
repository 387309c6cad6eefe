use Rattle.tevents.proofs.Steps.{runs_are_events}
use Rattle.tevents.proofs.laws.runs_are_events.Goals as goal

pub returns : goal.returns
returns c = runs_are_events
