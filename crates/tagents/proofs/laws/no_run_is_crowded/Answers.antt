use Rattle.tagents.proofs.Crowded.{no_run_is_crowded}
use Rattle.tagents.proofs.laws.no_run_is_crowded.Goals as goal

pub returns : goal.returns
returns g c = no_run_is_crowded g.row.State.Denot g.row.Agent.Denot g.row.Label.Denot
