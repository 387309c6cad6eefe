use Rattle.std.proofs.Common.{arith}
use Rattle.tnet.specs.NetParts.{net_of_parts}
use Rattle.tnet.proofs.Stepping.{stepped_at}
use Rattle.tnet.proofs.parts.NetParts.step_node.Goals as goal

pub returns : goal.returns
returns c =
    stepped_at c.args.node c.from-place.result c.args.event (net_of_parts c.args.self.now) _ _ c.step.result
    c.from-place.ensures (omega arith) c.index_mut.ensures.value c.step.ensures.told c.step.ensures.left
