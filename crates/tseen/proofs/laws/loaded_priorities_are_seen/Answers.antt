use Rattle.tseen.proofs.Scheduled.{loaded_priorities_are_seen}
use Rattle.tseen.proofs.laws.loaded_priorities_are_seen.Goals as goal

pub returns : goal.returns
returns c = loaded_priorities_are_seen
