use Rattle.tlink.specs.Node.{fresh_sink}
use Rattle.tplan.specs.declared.plan.SinkPlan.{SinkPlan}
use Rattle.tnet.proofs.StartingNodes.{good_capacity, one_more_behind}
use Rattle.tnet.proofs.opening.add_sinks.Goals as goal

pub loop-sink-preserved : goal.loop-sink-preserved
loop-sink-preserved c =
    one_more_behind (λ (s : SinkPlan). fresh_sink s.capacity) c.args.sinks.now c.loop-sink.sink-index
    _ c.in_ok-node.node c.args.nodes.now.items c.loop-sink.nodes.items c.push.new.self.items
    c.loop-sink-test.true c.loop-sink.invariant
    c.in_ok-node.ensures c.in_ok-push.ensures.items

pub new_sink-requires : goal.new_sink-requires
new_sink-requires c =
    good_capacity c.args.sinks.now c.loop-sink.sink-index _ c.requires c.loop-sink-test.true
