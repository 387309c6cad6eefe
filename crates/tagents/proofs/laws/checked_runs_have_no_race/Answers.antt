use Rattle.tagents.proofs.Checked.{checked_runs_have_no_race}
use Rattle.tagents.proofs.laws.checked_runs_have_no_race.Goals as goal

pub returns : goal.returns
returns g c =
    checked_runs_have_no_race g.row.State.Denot g.row.Agent.Denot g.row.Label.Denot g.row.Place.Denot g.row.Mode.Denot
