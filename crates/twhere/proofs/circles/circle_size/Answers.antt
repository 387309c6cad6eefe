use Rattle.std.proofs.Common.{◌≡◌, ◌+◌, ℕ, suc, sym, ap, refl, ◌∙◌, add-one, length, arith, true, false}
use Rattle.twhere.specs.Circles.{comes_round, leading}
use Rattle.twhere.specs.NodeSets.{IsSetOf, set_waits}
use Rattle.twhere.proofs.CircleSets.{find_end, find_here, find_next, set_of_one}
use Rattle.twhere.proofs.circles.circle_size.Goals as goal

pub loop-done-init : goal.loop-done-init
loop-done-init c = record {
  so_far = set_of_one c.only-ends.result c.args.lowest c.only-ends.ensures;
  left = refl;
}

pub loop-done-preserved : goal.loop-done-preserved
loop-done-preserved c =
    let next : IsSetOf c.waiting_for-ends.result
    (leading (length c.args.waits.now) (set_waits c.args.waits.now) c.args.lowest (c.loop-done.done + 1)) =
    rw add-one (c.waiting_for-ends.ensures _ c.loop-done.invariant.so_far) in
    let over : comes_round (length c.args.waits.now) (set_waits c.args.waits.now) c.args.lowest (c.loop-done.done + 1)
    ≡ false = sym (next c.args.lowest) ∙ sym c.has.ensures ∙ c.if-has.false in
    record {
      so_far = next;
      left =
          sym (find_next (comes_round (length c.args.waits.now) (set_waits c.args.waits.now) c.args.lowest)
          (c.loop-done.done + 1) (suc (length c.args.waits.now)) (omega arith) over)
          ∙ c.loop-done.invariant.left;
    }

pub returns-then-has : goal.returns-then-has
returns-then-has c =
    let next : IsSetOf c.waiting_for-ends.result
    (leading (length c.args.waits.now) (set_waits c.args.waits.now) c.args.lowest (c.loop-done.done + 1)) =
    rw add-one (c.waiting_for-ends.ensures _ c.loop-done.invariant.so_far) in
    let round : comes_round (length c.args.waits.now) (set_waits c.args.waits.now) c.args.lowest (c.loop-done.done + 1)
    ≡ true = sym (next c.args.lowest) ∙ sym c.has.ensures ∙ c.if-has.true in
    sym (find_here (comes_round (length c.args.waits.now) (set_waits c.args.waits.now) c.args.lowest)
    (c.loop-done.done + 1) (suc (length c.args.waits.now)) (omega arith) round)
    ∙ c.loop-done.invariant.left

pub returns : goal.returns
returns c =
    sym (find_end (comes_round (length c.args.waits.now) (set_waits c.args.waits.now) c.args.lowest)
    (c.loop-done.done + 1) (suc (length c.args.waits.now)) (omega arith))
    ∙ c.loop-done.invariant.left
