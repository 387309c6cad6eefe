use Rattle.tseen.proofs.Fewest.{few_throughout}
use Rattle.tseen.proofs.laws.nodes_have_few_throughout.Goals as goal

pub returns : goal.returns
returns c = few_throughout
