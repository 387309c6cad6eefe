use Rattle.std.proofs.Common.{length}
use Rattle.tnet.proofs.StartingNodes.{IsBuiltSoFar}
use Rattle.tnet.proofs.opening.build_nodes.Given as goal

abbrev pub invariant-loop-plan : goal.invariant-loop-plan
invariant-loop-plan l = IsBuiltSoFar l.timeslice l.wires l.fn.plans (length l.yielded) l.nodes.items
