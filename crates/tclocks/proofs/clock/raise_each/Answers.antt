use Rattle.std.proofs.Common.{arith, ◌<◌, ◌≤◌, length}
use Rattle.tclocks.proofs.ClockLemmas.{raised_more, raised_all}
use Rattle.tclocks.proofs.clock.raise_each.Goals as goal

pub loop-place-preserved : goal.loop-place-preserved
loop-place-preserved c =
    let within : c.loop-place.place < length c.args.others.now = omega arith in
    raised_more _ _ _ _ _ within c.max.ensures c.loop-place.invariant

pub returns : goal.returns
returns c =
    let all : length c.args.others.now ≤ c.loop-place.place = omega arith in
    raised_all _ _ _ _ all c.loop-place.invariant
