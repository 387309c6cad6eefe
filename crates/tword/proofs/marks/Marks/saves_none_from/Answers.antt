use Rattle.tword.proofs.ClaimTally.{none_in}
use Rattle.tword.proofs.marks.Marks.saves_none_from.Goals as goal

pub returns-then-are_empty : goal.returns-then-are_empty
returns-then-are_empty c = λ e k p q.
    rw (← c.self.view_is) (none_in _ _ _ _ k c.self.invariant (c.are_empty.ensures e k p q)).saved
