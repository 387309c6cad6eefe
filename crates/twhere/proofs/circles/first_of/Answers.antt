use Rattle.std.proofs.Common.{◌≡◌, ℕ, List, sym, ap, ◌∙◌, length, unwrap_or, Bool, true, false, Option}
use Rattle.std.specs.Prelude.{◌&&◌}
use Rattle.twhere.specs.Circles.{is_among}
use Rattle.twhere.specs.NodeSets.{set_waits}
use Rattle.twhere.proofs.CircleSets.{find_end, find_here, find_next}
use Rattle.twhere.proofs.circles.first_of.Goals as goal

pub loop-other-preserved : goal.loop-other-preserved
loop-other-preserved c = λ xs same.
    let over : (set_waits c.args.waits.now c.args.node c.loop-other.other && is_among xs c.loop-other.other) ≡ false =
    ap (λ (b : Bool). set_waits c.args.waits.now c.args.node c.loop-other.other && b) (sym (same c.loop-other.other))
    ∙ sym (c.both-next.ensures c.loop-other.other) ∙ sym c.has.ensures ∙ c.if-has.false in
    sym (find_next (λ x. set_waits c.args.waits.now c.args.node x && is_among xs x) c.loop-other.other
    (length c.args.waits.now) c.loop-other-test.true over)
    ∙ c.loop-other.invariant xs same

pub returns-then-has-clause-first : goal.returns-then-has-clause-first
returns-then-has-clause-first c = λ xs same.
    let here : (set_waits c.args.waits.now c.args.node c.loop-other.other && is_among xs c.loop-other.other) ≡ true =
    ap (λ (b : Bool). set_waits c.args.waits.now c.args.node c.loop-other.other && b) (sym (same c.loop-other.other))
    ∙ sym (c.both-next.ensures c.loop-other.other) ∙ sym c.has.ensures ∙ c.if-has.true in
    ap (λ (o : Option ℕ). unwrap_or o c.args.lowest)
    (sym (find_here (λ x. set_waits c.args.waits.now c.args.node x && is_among xs x) c.loop-other.other
    (length c.args.waits.now) c.loop-other-test.true here)
    ∙ c.loop-other.invariant xs same)

pub returns-clause-first : goal.returns-clause-first
returns-clause-first c = λ xs same.
    ap (λ (o : Option ℕ). unwrap_or o c.args.lowest)
    (sym (find_end (λ x. set_waits c.args.waits.now c.args.node x && is_among xs x) c.loop-other.other
    (length c.args.waits.now) c.loop-other-test.false)
    ∙ c.loop-other.invariant xs same)
