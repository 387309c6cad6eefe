use Rattle.tseen.proofs.FirstHalves.{first_halves_are_seen}
use Rattle.tseen.proofs.messages.first_halves_are_seen.Goals as goal

pub returns : goal.returns
returns c = first_halves_are_seen
