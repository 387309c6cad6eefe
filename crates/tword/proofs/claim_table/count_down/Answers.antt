use Rattle.std.proofs.Common.{arith}
use Rattle.tword.proofs.ClaimTally.{down_more}
use Rattle.tword.proofs.claim_table.count_down.Goals as goal

pub loop-slot-preserved : goal.loop-slot-preserved
loop-slot-preserved c =
    down_more c.loop-slot.counts c.args.counts.now c.args.first c.loop-slot.slot c.args.behind (omega arith)
    (omega arith) (omega arith) (omega arith) c.requires.some c.loop-slot.invariant
