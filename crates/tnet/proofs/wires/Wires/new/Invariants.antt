use Rattle.tnet.specs.FarEnds.{AgreesBelow}
use Rattle.tnet.proofs.wires.Wires.new.Given as goal

-- the rows of the nodes so far
abbrev pub invariant-loop-node : goal.invariant-loop-node
invariant-loop-node l = AgreesBelow l.wires.items l.far.items l.node
