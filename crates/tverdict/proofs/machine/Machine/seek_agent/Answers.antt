use Rattle.std.proofs.Common.{◌<◌, ℕ, refl, sym, ap, ◌∙◌, arith, length, inl, inr, true≢false}
use Rattle.std.specs.Prelude.{slice_get}
use Rattle.std.proofs.lemmas.Option.{slice_get_read, slice_get_within, same_Some}
use Rattle.std.proofs.lemmas.Bool.{cases_eq}
use Rattle.tverdict.proofs.machine.Machine.seek_agent.Goals as goal

pub returns-then-is_same : goal.returns-then-is_same
returns-then-is_same c =
    let items = c.args.self.now.agents.items in
    let inside : c.loop-number.number < length items = omega (
      arith,
      c.len-number-end.ensures,
      c.loop-number-test.true,
    ) in (
      c.index.result.now,
      slice_get_read items (length items) c.loop-number.number c.index.result.now refl inside c.index.ensures,
      c.is_same.ensures.yes c.if-is_same.true,
    )

pub loop-number-preserved : goal.loop-number-preserved
loop-number-preserved c = λ i x low there same.
    let items = c.args.self.now.agents.items in
    let inside : c.loop-number.number < length items = omega (
      arith,
      c.len-number-end.ensures,
      c.loop-number-test.true,
    ) in
    let at = slice_get_read items (length items) c.loop-number.number c.index.result.now refl inside c.index.ensures in
    elim (cases_eq i c.loop-number.number) [
      | inl e ↦ absurd (true≢false (sym (c.is_same.ensures.no
          (same_Some c.index.result.now x (sym at ∙ ap (λ (n : ℕ). slice_get items n) (sym e) ∙ there) ∙ same))
          ∙ c.if-is_same.false))
      | inr ne ↦ c.loop-number.invariant i x (omega (arith, low, ne)) there same
    ]

pub returns : goal.returns
returns c = λ i x there same.
    let within = slice_get_within c.args.self.now.agents.items i x there in
    c.loop-number.invariant i x (omega (arith, within, c.len-number-end.ensures, c.loop-number-test.false)) there same
