use Rattle.std.proofs.Common.{arith}
use Rattle.tword.proofs.ClaimTally.{up_more}
use Rattle.tword.proofs.claim_table.count_up.Goals as goal

pub loop-slot-preserved : goal.loop-slot-preserved
loop-slot-preserved c =
    up_more c.loop-slot.counts c.args.counts.now c.args.first c.loop-slot.slot (omega arith) (omega arith)
    c.loop-slot.invariant
