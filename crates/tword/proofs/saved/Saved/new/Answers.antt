use Rattle.std.proofs.Common.{arith}
use Rattle.tword.proofs.SavedTable.{once_none}
use Rattle.tword.proofs.saved.Saved.new.Goals as goal

pub invariant_of-result : goal.invariant_of-result
invariant_of-result c =
    (once_none _ c.in_ok-with_capacity.ensures.items, omega (arith, c.in_ok-with_capacity.ensures.capacity))
