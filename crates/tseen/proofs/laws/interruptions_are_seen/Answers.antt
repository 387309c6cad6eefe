use Rattle.tseen.proofs.Interruptions.{interruptions_are_seen}
use Rattle.tseen.proofs.laws.interruptions_are_seen.Goals as goal

pub returns : goal.returns
returns c = interruptions_are_seen
