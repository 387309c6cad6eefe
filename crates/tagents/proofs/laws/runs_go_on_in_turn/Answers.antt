use Rattle.tagents.proofs.Grouped.{runs_go_on_in_turn}
use Rattle.tagents.proofs.laws.runs_go_on_in_turn.Goals as goal

pub returns : goal.returns
returns g c = runs_go_on_in_turn g.row.State.Denot g.row.Agent.Denot g.row.Label.Denot
