use Rattle.tagents.proofs.Clocked.{clocks_tell_races}
use Rattle.tagents.proofs.laws.clocks_tell_races.Goals as goal

pub returns : goal.returns
returns g c = clocks_tell_races g.row.State.Denot g.row.Agent.Denot g.row.Label.Denot
