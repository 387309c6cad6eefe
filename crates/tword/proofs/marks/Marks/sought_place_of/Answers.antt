use Rattle.std.proofs.Common.{◌≡◌, ◌+◌, ◌/◌, ℕ, ap, ◌∙◌, arith}
use Rattle.tword.specs.Slots.{saved_in}
use Rattle.tword.specs.Words.{word_below}
use Rattle.tword.proofs.ClaimTally.{absent_by_count}
use Rattle.tword.proofs.marks.Marks.sought_place_of.Goals as goal

pub returns-then-saves_none_in-clause-none : goal.returns-then-saves_none_in-clause-none
returns-then-saves_none_in-clause-none c = λ e.
    let same : word_below c.args.workspace 3 / 4 + 2 ≡ c.from.result + 2 = omega (arith, c.below.ensures) in
    absent_by_count c.args.self.now.saved c.args.workspace
    (ap (λ (word : ℕ). saved_in word c.args.self.now.saved) same
    ∙ c.saves_none_in.ensures c.if-saves_none_in.true)
