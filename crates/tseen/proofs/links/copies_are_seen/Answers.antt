use Rattle.tseen.proofs.Copies.{copies_are_seen}
use Rattle.tseen.proofs.links.copies_are_seen.Goals as goal

pub returns : goal.returns
returns c = copies_are_seen
