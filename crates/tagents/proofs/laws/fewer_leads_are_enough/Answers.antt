use Rattle.tagents.proofs.Fewer.{fewer_leads_are_enough}
use Rattle.tagents.proofs.laws.fewer_leads_are_enough.Goals as goal

pub returns : goal.returns
returns g c = fewer_leads_are_enough g.row.State.Denot g.row.Agent.Denot g.row.Label.Denot
