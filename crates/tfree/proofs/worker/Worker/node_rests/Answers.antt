use Rattle.tfree.specs.Resting.{LinkRests}
use Rattle.tfree.proofs.Rests.{one_more}
use Rattle.tfree.proofs.worker.Worker.node_rests.Goals as goal

pub loop-link-preserved : goal.loop-link-preserved
loop-link-preserved c =
    one_more (LinkRests c.args.workers.now c.args.self.now c.args.i) c.loop-link.link c.loop-link.invariant
    (c.link_rests.ensures c.if-not-link_rests.false)
