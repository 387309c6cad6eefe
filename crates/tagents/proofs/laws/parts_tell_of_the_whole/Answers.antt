use Rattle.tagents.proofs.CrowdParts.{parts_tell_of_the_whole}
use Rattle.tagents.proofs.laws.parts_tell_of_the_whole.Goals as goal

pub returns : goal.returns
returns g c = parts_tell_of_the_whole g.row.State.Denot g.row.Agent.Denot g.row.Label.Denot
