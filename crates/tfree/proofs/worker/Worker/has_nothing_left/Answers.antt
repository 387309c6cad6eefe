use Rattle.tfree.specs.Resting.{NodeRests}
use Rattle.tfree.proofs.Rests.{one_more}
use Rattle.tfree.proofs.worker.Worker.has_nothing_left.Goals as goal

pub loop-i-preserved : goal.loop-i-preserved
loop-i-preserved c =
    one_more (NodeRests c.args.workers.now c.args.self.now) c.loop-i.i c.loop-i.invariant
    (c.node_rests.ensures c.if-not-node_rests.false)
