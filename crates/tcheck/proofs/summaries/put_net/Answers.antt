use Rattle.std.proofs.Common.{ap}
use Rattle.tfiles.proofs.Told.{tells_as, tells_then}
use Rattle.std.proofs.Common.{List}
use Rattle.tplan.specs.declared.plan.NodePlan.{NodePlan}
use Rattle.tplan.specs.declared.plan.SinkPlan.{SinkPlan}
use Rattle.tplan.specs.declared.plan.SourcePlan.{SourcePlan}
use Rattle.tplan.specs.declared.plan.Wire.{Wire}
use Rattle.tcheck.specs.Summaries.{node_text, sink_text, source_text, texts_from, wire_text}
use Rattle.tcheck.proofs.summaries.put_net.Goals as goal

pub returns : goal.returns
returns g c =
    tells_then c.put.ensures
    (tells_then (tells_as c.put_nodes.ensures
    (ap (λ (ps : List NodePlan). texts_from (node_text c.args.nodes.now c.args.wires.now) 0 ps) c.as_slice.ensures))
    (tells_then (tells_as c.put_wires.ensures (ap (λ (ws : List Wire). texts_from wire_text 0 ws) c.as_slice-2.ensures))
    (tells_then (tells_as c.put_sources.ensures
    (ap (λ (ss : List SourcePlan). texts_from source_text 0 ss) c.as_slice-3.ensures))
    (tells_as c.put_sinks.ensures (ap (λ (ss : List SinkPlan). texts_from sink_text 0 ss) c.as_slice-4.ensures)))))
