use Rattle.tagents.proofs.Timed.{clocks_tell_chains}
use Rattle.tagents.proofs.laws.clocks_tell_chains.Goals as goal

pub returns : goal.returns
returns g c = clocks_tell_chains g.row.State.Denot g.row.Agent.Denot g.row.Label.Denot
