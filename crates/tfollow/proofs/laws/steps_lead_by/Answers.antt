use Rattle.tfollow.proofs.Opened.{steps_lead_by}
use Rattle.tfollow.proofs.laws.steps_lead_by.Goals as goal

pub returns : goal.returns
returns c = steps_lead_by
