use Rattle.std.proofs.Common.{◌≡◌, ℕ, add-one, arith, length, subst}
use Rattle.twhere.specs.Circles.{leading}
use Rattle.twhere.specs.NodeSets.{IsSetOf, set_waits}
use Rattle.twhere.proofs.CircleSets.{set_of_one}
use Rattle.twhere.proofs.circles.leading.Goals as goal

pub loop-done-init : goal.loop-done-init
loop-done-init c = set_of_one c.only-ends.result c.args.lowest c.only-ends.ensures

pub loop-done-preserved : goal.loop-done-preserved
loop-done-preserved c = rw add-one (c.waiting_for-ends.ensures _ c.loop-done.invariant)

pub returns : goal.returns
returns c =
    let all : c.loop-done._done ≡ c.args.steps = omega arith in
    subst (λ (k : ℕ). IsSetOf c.loop-done.ends (leading (length c.args.waits.now) (set_waits c.args.waits.now)
    c.args.lowest k)) all c.loop-done.invariant
