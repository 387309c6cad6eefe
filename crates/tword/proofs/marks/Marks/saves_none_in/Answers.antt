use Rattle.std.proofs.Common.{arith}
use Rattle.std.proofs.lemmas.Bool.{eqb-true}
use Rattle.tword.proofs.ClaimTally.{total_at}
use Rattle.tword.proofs.marks.Marks.saves_none_in.Goals as goal

pub returns-else-count-eq0 : goal.returns-else-count-eq0
returns-else-count-eq0 c = λ e.
    let counted = eqb-true _ _ e in
    let total = total_at _ _ _ _ c.args.word c.in-Some.count c.self.invariant c.in-Some.ensures in
    rw (← c.self.view_is) (omega (
      arith,
      counted,
      total,
      c.count-else-count-eq0.ensures.is,
      c.count-else-count-eq0-2.ensures.is,
    ))
