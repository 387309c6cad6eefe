use Rattle.tagents.proofs.Timed.{fewer_leads_tell_chains}
use Rattle.tagents.proofs.laws.fewer_leads_tell_chains.Goals as goal

pub returns : goal.returns
returns g c = fewer_leads_tell_chains g.row.State.Denot g.row.Agent.Denot g.row.Label.Denot
