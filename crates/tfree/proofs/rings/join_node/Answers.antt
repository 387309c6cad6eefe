use Rattle.std.proofs.Common.{ℕ, subst, arith}
use Rattle.tnet.specs.NetParts.{net_of_parts}
use Rattle.tfree.specs.Ends.{ins_view, outs_view}
use Rattle.tfree.specs.Rings.{AreJoined}
use Rattle.tfree.proofs.Joining.{joined_node}
use Rattle.tfree.proofs.rings.join_node.Goals as goal

pub returns : goal.returns
returns c =
    let net = net_of_parts c.args.parts.now in
    let l = c.loop-link in
    joined_node net c.args.node (ins_view l.ins.items) (outs_view l.outs.items) c.requires.wires
    (subst (λ (k : ℕ). AreJoined net c.args.node k (ins_view l.ins.items) (outs_view l.outs.items))
    (omega (arith, c.loop-link-test.false)) l.invariant)
