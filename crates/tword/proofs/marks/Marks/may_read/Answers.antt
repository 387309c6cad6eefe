use Rattle.std.proofs.Common.{refl}
use Rattle.tword.proofs.ClaimTally.{all_apart}
use Rattle.tword.proofs.marks.Marks.may_read.Goals as goal

pub returns-else-not-is_clear_of : goal.returns-else-not-is_clear_of
returns-else-not-is_clear_of c =
    let apart = all_apart _ _ _ _ c.args.start c.args.size c.self.invariant
    (c.is_clear_of.ensures c.if-not-is_clear_of.false) in
    rw (← c.self.view_is, apart.inputs, apart.saved) refl
