use Rattle.tnet.specs.NetParts.{net_of_parts}
use Rattle.tfree.specs.Ends.{ins_view, outs_view}
use Rattle.tfree.specs.Rings.{AreJoined}
use Rattle.tfree.proofs.rings.join_node.Given as goal

abbrev pub invariant-loop-link : goal.invariant-loop-link
invariant-loop-link l = AreJoined (net_of_parts l.parts) l.node l.link (ins_view l.ins.items) (outs_view l.outs.items)
