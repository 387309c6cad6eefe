use Rattle.std.proofs.Common.{◌+◌, ◌∙◌, ◌≡◌, below_more, length, sym, arith}
use Rattle.twiring.specs.NearKeys.{differ_at}
use Rattle.twiring.proofs.NearPlaces.{none_below, one_below}
use Rattle.twiring.proofs.near.differ_once.Goals as goal

pub loop-place-preserved : goal.loop-place-preserved
loop-place-preserved c =
    below_more _ _ c.loop-place.invariant (sym c.differ_at.ensures ∙ c.if-differ_at.false)

pub returns-then-differ_at : goal.returns-then-differ_at
returns-then-differ_at c =
    sym (one_below (differ_at c.args.a.now c.args.b.now) (length c.args.a.now + 1) c.loop-place.place
    c.loop-place-test.true (sym c.differ_at.ensures ∙ c.if-differ_at.true))

pub returns : goal.returns
returns c =
    let end : c.loop-place.place ≡ length c.args.a.now + 1 = omega arith in
    sym (none_below (differ_at c.args.a.now c.args.b.now) (length c.args.a.now + 1)
    (λ k l. c.loop-place.invariant k (omega (arith, l, end))))
