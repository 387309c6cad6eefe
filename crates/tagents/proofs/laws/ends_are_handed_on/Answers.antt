use Rattle.tagents.proofs.Handed.{ends_are_handed_on}
use Rattle.tagents.proofs.laws.ends_are_handed_on.Goals as goal

pub returns : goal.returns
returns g c = ends_are_handed_on g.row.State.Denot g.row.Agent.Denot g.row.Label.Denot
