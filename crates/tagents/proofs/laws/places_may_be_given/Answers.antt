use Rattle.tagents.proofs.Placed.{places_may_be_given}
use Rattle.tagents.proofs.laws.places_may_be_given.Goals as goal

pub returns : goal.returns
returns g c = places_may_be_given g.row.State.Denot g.row.Agent.Denot g.row.Label.Denot
