use Rattle.tseen.proofs.SteadyOpening.{opening_nodes_are_steady}
use Rattle.tseen.proofs.laws.all_nodes_open_steady.Goals as goal

pub returns : goal.returns
returns c = opening_nodes_are_steady
