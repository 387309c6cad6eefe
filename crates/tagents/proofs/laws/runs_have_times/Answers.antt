use Rattle.tagents.proofs.Timed.{runs_have_times}
use Rattle.tagents.proofs.laws.runs_have_times.Goals as goal

pub returns : goal.returns
returns g c =
    runs_have_times g.row.State.Denot g.row.Agent.Denot g.row.Label.Denot g.row.Place.Denot g.row.Mode.Denot
