use Rattle.tword.proofs.ClaimTally.{tally_none}
use Rattle.tword.proofs.marks.Marks.new.Goals as goal

pub invariant_of-result : goal.invariant_of-result
invariant_of-result c = tally_none _ _ _ _ c.new.ensures c.new-2.ensures c.in_ok-new.ensures c.in_ok-new-2.ensures.zeros
