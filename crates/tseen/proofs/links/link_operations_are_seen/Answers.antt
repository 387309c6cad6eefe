use Rattle.tseen.proofs.LinkOperations.{link_operations_are_seen}
use Rattle.tseen.proofs.links.link_operations_are_seen.Goals as goal

pub returns : goal.returns
returns c = link_operations_are_seen
