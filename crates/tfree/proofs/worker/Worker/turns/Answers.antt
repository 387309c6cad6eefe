use Rattle.std.proofs.Common.{rules, ◌∙◌, arith, refl}
use Rattle.tfree.proofs.Turnings.{turn_stops, idle_behind}
use Rattle.tfree.proofs.worker.Worker.turns.Goals as goal

pub returns-in-Ok-false : goal.returns-in-Ok-false
returns-in-Ok-false c = (
  omega (arith, c.loop-made-test.true),
  λ n l u. record {
    same = c.in-Ok-false.ensures.same ∙ c.loop-made.invariant.same;
    did = idle_behind _ _ c.args.task.slice c.loop-made.made n _ _ _ l c.loop-made.invariant.same
        c.loop-made.invariant.done c.in-Ok-false.ensures.turn (c.next_turn.ensures.nothing (search rules));
    full = λ e. cc;
  },
)

pub returns-in-Err : goal.returns-in-Err
returns-in-Err c = (
  omega (arith, c.loop-made-test.true),
  λ n l u. record {
    same = c.in-Err.ensures.same ∙ c.loop-made.invariant.same;
    did = turn_stops _ _ n c.args.task.slice c.loop-made.made _ _ _ _ refl (omega (arith, l))
        c.loop-made.invariant.same c.loop-made.invariant.done c.in-Err.ensures.turn;
    full = λ e. c.in-Err.ensures.full (search rules);
  },
)
