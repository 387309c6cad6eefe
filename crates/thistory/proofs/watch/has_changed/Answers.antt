use Rattle.std.proofs.Common.{◌≡◌, refl, sym, ◌∙◌, None, arith}
use Rattle.thistory.proofs.Changes.{changed_end, changed_next}
use Rattle.thistory.proofs.watch.has_changed.Goals as goal

pub returns-then-is_changed : goal.returns-then-is_changed
returns-then-is_changed c =
    sym
    (sym c.loop-index.invariant
    ∙ changed_next c.loop-index.index c.args.before.now c.args.after.now None None (omega arith) (omega arith)
    ∙ rw (sym c.is_changed.ensures ∙ c.if-is_changed.true) refl)

pub loop-index-preserved : goal.loop-index-preserved
loop-index-preserved c =
    sym
    (sym c.loop-index.invariant
    ∙ changed_next c.loop-index.index c.args.before.now c.args.after.now None None (omega arith) (omega arith)
    ∙ rw (sym c.is_changed.ensures ∙ c.if-is_changed.false) refl)

pub returns : goal.returns
returns c =
    sym
    (sym c.loop-index.invariant
    ∙ changed_end c.loop-index.index c.args.before.now _ (omega arith))
