use Rattle.tseen.proofs.Meetings.{meetings_go_on}
use Rattle.tseen.proofs.messages.meetings_go_on.Goals as goal

pub returns : goal.returns
returns c = meetings_go_on
