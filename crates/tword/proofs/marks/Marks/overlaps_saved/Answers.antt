use Rattle.std.proofs.Common.{sym, arith}
use Rattle.tword.proofs.ClaimTally.{saved_apart}
use Rattle.tword.proofs.marks.Marks.overlaps_saved.Goals as goal

pub returns-then-saves_none_from : goal.returns-then-saves_none_from
returns-then-saves_none_from c =
    sym (saved_apart c.args.self.now.saved c.args.span.now.start c.args.span.now.size (λ k p q.
    c.saves_none_from.ensures c.if-saves_none_from.true k (omega arith) (omega arith)))
