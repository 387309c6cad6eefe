use Rattle.tprocesses.specs.Choosing.{requires_no_other}
use Rattle.tcertify.specs.Nodes.{node_site}
use Rattle.tcertify.proofs.EachPort.{AreDone}
use Rattle.tcertify.proofs.node.Node.requires_no_other.Given as goal

-- the first channels are done
abbrev pub invariant-loop-index : goal.invariant-loop-index
invariant-loop-index l = AreDone (requires_no_other (node_site l.fn.self) l.channel) l.fn.self l.process l.index l.self
