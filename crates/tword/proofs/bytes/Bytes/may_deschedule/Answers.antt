use Rattle.std.proofs.Common.{◌≡◌, Option, Some, None, true, is_ok, ap, sym, ◌∙◌, refl, arith}
use Rattle.tword.specs.declared.breaks.Break.{Break}
use Rattle.tword.specs.Actions.{or_break}
use Rattle.tword.proofs.Descheduling.{deschedule-together}
use Rattle.tword.proofs.bytes.Bytes.may_deschedule.Goals as goal

none_if_ok : (b : Option Break) → is_ok (or_break b (tt {0})) ≡ true → b ≡ None
none_if_ok None h = refl
none_if_ok (Some x) h = cc

pub returns-then-are_three_clear : goal.returns-then-are_three_clear
returns-then-are_three_clear c =
    let place = none_if_ok _
    (ap is_ok (sym c.lies_open.ensures) ∙ sym c.is_ok.ensures.value ∙ c.if-is_ok.true) in
    rw (
    deschedule-together _ c.args.marks.now c.args.workspace c.below-lowest.result (omega arith) (omega arith)
    (omega arith) place (c.are_three_clear.ensures c.if-are_three_clear.true)
    ) refl
