use Rattle.std.proofs.Common.{rules, length, get_or, List, ℕ, ap, ◌∙◌, arith}
use Rattle.std.proofs.lemmas.List.{get_or-replicate, length-replicate}
use Rattle.tword.proofs.claim_table.ClaimTable.new.Goals as goal

pub returns-clause-zeros : goal.returns-clause-zeros
returns-clause-zeros c = λ slot within.
    let items = c.in_ok-vec.ensures.items_if_clones_equal (λ y e. search rules) in
    let size = ap (λ (xs : List ℕ). length xs) items ∙ length-replicate {A = ℕ} c.min-words.result 0 in
    ap (λ (xs : List ℕ). get_or xs slot 0) items
    ∙ get_or-replicate c.min-words.result slot 0 0 (omega (arith, within, size))
