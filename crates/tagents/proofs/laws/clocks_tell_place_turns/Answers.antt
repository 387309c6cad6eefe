use Rattle.tagents.proofs.Timed.{clocks_tell_place_turns}
use Rattle.tagents.proofs.laws.clocks_tell_place_turns.Goals as goal

pub returns : goal.returns
returns g c = clocks_tell_place_turns g.row.State.Denot g.row.Agent.Denot g.row.Label.Denot
