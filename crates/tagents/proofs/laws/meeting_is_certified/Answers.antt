use Rattle.tagents.proofs.Meetings.{meeting_is_certified}
use Rattle.tagents.proofs.laws.meeting_is_certified.Goals as goal

pub returns : goal.returns
returns c = meeting_is_certified
