use Rattle.tagents.proofs.Completed.{each_end_is_the_end}
use Rattle.tagents.proofs.laws.each_end_is_the_end.Goals as goal

pub returns : goal.returns
returns g c = each_end_is_the_end g.row.State.Denot g.row.Agent.Denot g.row.Label.Denot
