use Rattle.tagents.proofs.Timed.{clocks_tell_ends}
use Rattle.tagents.proofs.laws.clocks_tell_ends.Goals as goal

pub returns : goal.returns
returns g c = clocks_tell_ends g.row.State.Denot g.row.Agent.Denot g.row.Label.Denot
