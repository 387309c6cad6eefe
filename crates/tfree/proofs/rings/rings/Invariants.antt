use Rattle.tnet.specs.NetParts.{net_of_parts}
use Rattle.tfree.specs.Ends.{ins_view, outs_view}
use Rattle.tfree.specs.Rings.{AreJoined}
use Rattle.tfree.proofs.rings.rings.Given as goal

abbrev pub invariant-loop-node : goal.invariant-loop-node
invariant-loop-node l = AreJoined (net_of_parts l.parts) l.node 0 (ins_view l.ins.items) (outs_view l.outs.items)
