use Rattle.std.proofs.Common.{arith}
use Rattle.tword.proofs.BoundsSteps.{bounds-more, bounds-all}
use Rattle.tword.proofs.link_buffers.bounds_of_all.Goals as goal

pub loop-claim-preserved : goal.loop-claim-preserved
loop-claim-preserved c =
    bounds-more _ _ _ _ _ c.args.claimed.now c.claim-item.result c.loop-claim.invariant c.loop-claim-test.true
    c.claim-item.is c.widened-bounds.ensures.low c.widened-bounds.ensures.high c.widened-bounds.ensures.within

pub returns : goal.returns
returns c = bounds-all _ _ _ c.args.claimed.now c.loop-claim.invariant (omega arith)
