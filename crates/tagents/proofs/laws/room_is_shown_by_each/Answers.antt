use Rattle.tagents.proofs.Crowded.{room_is_shown_by_each}
use Rattle.tagents.proofs.laws.room_is_shown_by_each.Goals as goal

pub returns : goal.returns
returns g c = room_is_shown_by_each g.row.State.Denot g.row.Agent.Denot g.row.Label.Denot
