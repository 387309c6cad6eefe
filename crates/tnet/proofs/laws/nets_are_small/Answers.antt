use Rattle.tnet.proofs.NamedEvents.{nets_are_small}
use Rattle.tnet.proofs.laws.nets_are_small.Goals as goal

pub returns : goal.returns
returns c = nets_are_small
