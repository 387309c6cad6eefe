use Rattle.tseen.proofs.Stepped.{local_instructions_are_seen}
use Rattle.tseen.proofs.laws.local_instructions_are_seen.Goals as goal

pub returns : goal.returns
returns c = local_instructions_are_seen
