use Rattle.tprocesses.specs.Choosing.{awaits_ports}
use Rattle.tcertify.specs.Nodes.{name_at, node_site}
use Rattle.tcertify.proofs.EachPort.{AreDone}
use Rattle.tcertify.proofs.node.Node.awaits_ports.Given as goal

-- the first channels are done
abbrev pub invariant-loop-index : goal.invariant-loop-index
invariant-loop-index l = AreDone (awaits_ports (node_site l.fn.self) (name_at l.fn.self l.process)) l.fn.self l.process
    l.index l.self
