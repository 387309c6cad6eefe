use Rattle.tagents.proofs.Placed.{places_are_shown_by_each}
use Rattle.tagents.proofs.laws.places_are_shown_by_each.Goals as goal

pub returns : goal.returns
returns g c = places_are_shown_by_each g.row.State.Denot g.row.Agent.Denot g.row.Label.Denot
