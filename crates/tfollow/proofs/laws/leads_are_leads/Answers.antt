use Rattle.tfollow.proofs.Led.{leads_are_leads}
use Rattle.tfollow.proofs.laws.leads_are_leads.Goals as goal

pub returns : goal.returns
returns c = leads_are_leads
