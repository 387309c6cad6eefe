use Rattle.tagents.proofs.Completed.{each_run_is_completed}
use Rattle.tagents.proofs.laws.each_run_is_completed.Goals as goal

pub returns : goal.returns
returns g c = each_run_is_completed g.row.State.Denot g.row.Agent.Denot g.row.Label.Denot
