use Rattle.tseen.proofs.Scheduled.{unstopped_are_seen}
use Rattle.tseen.proofs.laws.unstopped_are_seen.Goals as goal

pub returns : goal.returns
returns c = unstopped_are_seen
