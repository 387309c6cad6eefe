use Rattle.tagents.proofs.Turned.{turns_make_room}
use Rattle.tagents.proofs.laws.turns_make_room.Goals as goal

pub returns : goal.returns
returns g c = turns_make_room g.row.State.Denot g.row.Agent.Denot g.row.Label.Denot
