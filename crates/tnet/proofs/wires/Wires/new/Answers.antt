use Rattle.std.proofs.Common.{◌≡◌, arith}
use Rattle.tnet.proofs.Tables.{all_rows}
use Rattle.tnet.proofs.wires.Wires.new.Goals as goal

pub invariant_of-result : goal.invariant_of-result
invariant_of-result c =
    let end : c.loop-node.node ≡ c.args.nodes = omega arith in
    rw c.new.ensures
    (all_rows c.args.nodes c.args.wires.items c.loop-node.far.items c.requires (rw end at c.loop-node.invariant))
