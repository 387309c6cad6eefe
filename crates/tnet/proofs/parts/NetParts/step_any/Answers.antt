use Rattle.std.proofs.Common.{sym, ◌∙◌}
use Rattle.tnet.specs.NetParts.{net_of_parts}
use Rattle.tnet.proofs.Stepping.{event_refused}
use Rattle.tnet.proofs.parts.NetParts.step_any.Goals as goal

pub returns-in-Err : goal.returns-in-Err
returns-in-Err c =
    event_refused c.args.event c.in-Some.asked (net_of_parts c.args.self.now) _ c.in-Err.fault c.step_node.result
    (sym c.node_event.ensures ∙ c.in-Some.is) c.step_node.ensures c.in-Err.is
