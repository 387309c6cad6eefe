use Rattle.tagents.proofs.Placed.{places_are_enough}
use Rattle.tagents.proofs.laws.places_are_enough.Goals as goal

pub returns : goal.returns
returns g c = places_are_enough g.row.State.Denot g.row.Agent.Denot g.row.Label.Denot
