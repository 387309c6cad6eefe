use Rattle.tseen.proofs.Meetings.{meetings_are_seen}
use Rattle.tseen.proofs.messages.meetings_are_seen.Goals as goal

pub returns : goal.returns
returns c = meetings_are_seen
