use Rattle.tagents.proofs.Chained.{chains_tell_races}
use Rattle.tagents.proofs.laws.chains_tell_races.Goals as goal

pub returns : goal.returns
returns g c = chains_tell_races g.row.State.Denot g.row.Agent.Denot g.row.Label.Denot
