use Rattle.tevents.proofs.Steps.{runs_to_freezes_are_events}
use Rattle.tevents.proofs.laws.runs_to_freezes_are_events.Goals as goal

pub returns : goal.returns
returns c = runs_to_freezes_are_events
