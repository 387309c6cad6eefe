use Rattle.std.proofs.Common.{◌≡◌, ◌∙◌, ℕ, List, length, sym, ap, arith, eqb-true}
use Rattle.tclocks.proofs.ClockLemmas.{joined-above}
use Rattle.tclocks.proofs.clock.Clock.join.Goals as goal

pub returns-then-is_empty-clause-ok : goal.returns-then-is_empty-clause-ok
returns-then-is_empty-clause-ok c =
    let other : c.as_slice.result.now ≡ c.args.other.now = c.as_slice.ensures.value ∙ c.other.view_is in
    let zero : length c.as_slice.result.now ≡ 0 = eqb-true _ 0 (sym c.is_empty.ensures ∙ c.if-is_empty.true) in
    let none : length c.args.other.now ≡ 0 = sym (ap (λ (l : List ℕ). length l) other) ∙ zero in
    sym (joined-above c.args.self.now c.args.other.now (omega (arith, none)) (λ i h. absurd (omega (arith, none, h))))
