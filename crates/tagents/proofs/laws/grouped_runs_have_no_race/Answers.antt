use Rattle.tagents.proofs.Grouped.{grouped_runs_have_no_race}
use Rattle.tagents.proofs.laws.grouped_runs_have_no_race.Goals as goal

pub returns : goal.returns
returns g c = grouped_runs_have_no_race g.row.State.Denot g.row.Agent.Denot g.row.Label.Denot
