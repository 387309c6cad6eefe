use Rattle.std.proofs.Common.{◌+◌, sym, subst, arith, List}
use Rattle.tfree.specs.Turning.{Ended, AreEachTurned}
use Rattle.tfree.proofs.Turnings.{none_made, each_on_by}
use Rattle.tfree.proofs.turning.turn_in_stages.Goals as goal

pub loop-made-init : goal.loop-made-init
loop-made-init g c = record {
  within = omega arith;
  each = subst (λ (es : List Ended). AreEachTurned 0 c.args.slice c.args.workers.now es c.args.workers.now)
      (sym c.requires) (none_made c.args.slice c.args.workers.now);
}

pub loop-made-preserved-then-not-found : goal.loop-made-preserved-then-not-found
loop-made-preserved-then-not-found g c =
    let on = each_on_by c.args.slice c.loop-made.made _ _ _ _ _ _ _ _ _ _ c.loop-made.invariant.each
    c.loop-made-test.true c.task-task.ensures c.turn_some-stint.ensures c.max-made.ensures in
    record { within = on.0; each = on.1 }

pub loop-made-preserved : goal.loop-made-preserved
loop-made-preserved g c =
    let on = each_on_by c.args.slice c.loop-made.made _ _ _ _ _ _ _ _ _ _ c.loop-made.invariant.each
    c.loop-made-test.true c.task-task.ensures c.turn_some-stint.ensures c.max-made.ensures in
    record { within = on.0; each = on.1 }

pub returns-then-are_idle : goal.returns-then-are_idle
returns-then-are_idle g c =
    let on = each_on_by c.args.slice c.loop-made.made _ _ _ _ _ _ _ _ _ _ c.loop-made.invariant.each
    c.loop-made-test.true c.task-task.ensures c.turn_some-stint.ensures c.max-made.ensures in
    record {
      made = c.loop-made.made + c.max-made.result;
      within = on.0;
      each = on.1;
      idle = λ less. c.are_idle.ensures c.if-are_idle.true;
    }
