use Rattle.std.proofs.Common.{◌≡◌, ℕ, ◌-◌, ◌+◌, ap, flat_map, length, arith}
use Rattle.tfiles.proofs.Told.{goes_on-as, goes_on-start, goes_on-next, goes_on-end, tells_then}
use Rattle.twhere.specs.Circles.{leading, way}
use Rattle.twhere.specs.NodeSets.{set_waits}
use Rattle.twhere.specs.Standing.{awaited_text}
use Rattle.twhere.proofs.CircleSets.{way_end, way_next}
use Rattle.twhere.proofs.circles.put_way.Goals as goal

pub loop-done-init : goal.loop-done-init
loop-done-init g c = record {
  there = omega arith;
  told =
      let none : c.args.steps ≡ c.args.steps - 0 = omega arith in
      goes_on-as
      (goes_on-start c.args.out.now (flat_map awaited_text
      (way (length c.args.waits.now) (set_waits c.args.waits.now) c.args.lowest c.args.steps c.args.lowest)))
      (ap (λ (k : ℕ). flat_map awaited_text
      (way (length c.args.waits.now) (set_waits c.args.waits.now) c.args.lowest k c.args.lowest)) none);
}

pub loop-done-preserved : goal.loop-done-preserved
loop-done-preserved g c = record {
  there = c.first_of-node.ensures.within;
  told = goes_on-next _ _ c.loop-done.invariant.told
      (way_next (length c.args.waits.now) (set_waits c.args.waits.now) c.args.lowest (c.args.steps - c.loop-done.done)
      (c.args.steps - c.loop-done.done - 1) (c.args.steps - (c.loop-done.done + 1)) c.loop-done.node
      c.first_of-node.result
      (omega arith) (omega arith)
      (c.first_of-node.ensures.first
      (leading (length c.args.waits.now) (set_waits c.args.waits.now) c.args.lowest
      (c.args.steps - c.loop-done.done - 1))
      c.leading.ensures))
      (tells_then c.put.ensures c.put_decimal.ensures);
}

pub returns : goal.returns
returns g c =
    goes_on-end c.loop-done.invariant.told
    (way_end (length c.args.waits.now) (set_waits c.args.waits.now) c.args.lowest (c.args.steps - c.loop-done.done)
    c.loop-done.node (omega arith))
