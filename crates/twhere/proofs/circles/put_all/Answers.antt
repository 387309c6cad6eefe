use Rattle.std.proofs.Common.{ℕ, length, arith}
use Rattle.tfiles.proofs.Told.{goes_on-start, goes_on-next, goes_on-end}
use Rattle.twhere.specs.Circles.{circle}
use Rattle.twhere.specs.NodeSets.{set_waits}
use Rattle.twhere.specs.Standing.{circle_fact, circle_facts}
use Rattle.twhere.proofs.CircleSets.{facts_end, facts_next}
use Rattle.twhere.proofs.circles.put_all.Goals as goal

pub loop-lowest-init : goal.loop-lowest-init
loop-lowest-init g c =
    goes_on-start c.args.out.now (circle_facts (length c.args.waits.now) (set_waits c.args.waits.now))

pub loop-lowest-preserved : goal.loop-lowest-preserved
loop-lowest-preserved g c =
    goes_on-next _ _ c.loop-lowest.invariant
    (facts_next
    (λ (n : ℕ). circle_fact n (circle (length c.args.waits.now) (set_waits c.args.waits.now) n))
    c.loop-lowest.lowest (length c.args.waits.now) (omega arith))
    c.put_circle.ensures

pub returns : goal.returns
returns g c =
    goes_on-end c.loop-lowest.invariant
    (facts_end
    (λ (n : ℕ). circle_fact n (circle (length c.args.waits.now) (set_waits c.args.waits.now) n))
    c.loop-lowest.lowest (length c.args.waits.now) (omega arith))
