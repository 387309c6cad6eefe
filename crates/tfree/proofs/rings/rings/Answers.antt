use Rattle.std.proofs.Common.{ℕ, subst, arith}
use Rattle.tnet.specs.NetParts.{net_of_parts}
use Rattle.tfree.specs.Ends.{in_view, out_view, ins_view, outs_view}
use Rattle.tfree.specs.Rings.{AreJoined}
use Rattle.tfree.proofs.Joining.{joined_none, joined_all}
use Rattle.tfree.proofs.rings.rings.Goals as goal

pub loop-node-init : goal.loop-node-init
loop-node-init c =
    joined_none (net_of_parts c.args.parts.now) c.len-nodes.result in_view out_view c.in_ok-ins.ins.items
    c.in_ok-outs.outs.items (omega (arith, c.len-nodes.ensures, c.args.parts.now.nodes.ok.0)) c.in_ok-ins.ensures
    c.in_ok-outs.ensures

pub returns : goal.returns
returns c =
    let net = net_of_parts c.args.parts.now in
    let l = c.loop-node in
    joined_all net (ins_view l.ins.items) (outs_view l.outs.items) c.requires.wires
    (subst (λ (k : ℕ). AreJoined net k 0 (ins_view l.ins.items) (outs_view l.outs.items))
    (omega (arith, c.loop-node-test.false, c.len-nodes.ensures, c.args.parts.now.nodes.ok.0)) l.invariant)
