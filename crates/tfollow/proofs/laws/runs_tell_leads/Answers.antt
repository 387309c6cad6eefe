use Rattle.tfollow.proofs.Counted.{runs_tell_leads}
use Rattle.tfollow.proofs.laws.runs_tell_leads.Goals as goal

pub returns : goal.returns
returns c = runs_tell_leads
