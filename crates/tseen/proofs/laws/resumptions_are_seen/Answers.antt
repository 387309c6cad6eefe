use Rattle.tseen.proofs.Resumptions.{resumptions_are_seen}
use Rattle.tseen.proofs.laws.resumptions_are_seen.Goals as goal

pub returns : goal.returns
returns c = resumptions_are_seen
