use Rattle.std.proofs.Common.{◌≡◌, ◌-◌, ◌∙◌, List, ℕ, sym, ap, length, get_or, arith}
use Rattle.std.proofs.lemmas.Bool.{eqb-true}
use Rattle.tword.proofs.ClaimTally.{none_summed}
use Rattle.tword.specs.Slots.{lowest_word}
use Rattle.tword.proofs.claim_table.ClaimTable.are_empty.Goals as goal

pub returns : goal.returns
returns c = λ zero k low high.
    let same : c.deref.result.now ≡ c.args.self.now = c.deref.ensures.value ∙ c.self.view_is in
    let size : length c.deref.result.now ≡ length c.args.self.now = ap (λ (xs : List ℕ). length xs) same in
    let none = none_summed c.deref.result.now (c.args.first - lowest_word) (c.args.behind - lowest_word)
    (k - lowest_word)
    (omega arith) (omega arith) (sym c.sum_of.ensures ∙ eqb-true c.sum_of.result 0 zero) (omega arith) (omega arith) in
    record {
      above = omega arith;
      below = omega arith;
      is = ap (λ (counts : List ℕ). get_or counts (k - lowest_word) 0) (sym same) ∙ none;
    }
