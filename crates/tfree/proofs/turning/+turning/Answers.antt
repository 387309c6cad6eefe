use denote.Param.Send.{sendable}
use Rattle.std.proofs.Common.{sym, subst, List, ◌++◌}
use Rattle.tfree.specs.Turning.{Ended, AreEachGoneOn}
use Rattle.tfree.specs.Views.{View}
use Rattle.tfree.proofs.Crossings.{worker_send, ended_send}
use Rattle.tfree.proofs.Turnings.{both_on}
use Rattle.tfree.proofs.turning.Task.TheSendSync as task
use Rattle.tfree.proofs.turning.+turning.Goals as goal

pub turn_some-returns : goal.turn_some-returns
turn_some-returns g t c = (
  c.turn_both.ensures.front.0,
  λ n l u. subst (λ (vs : List View). AreEachGoneOn n c.args.task.slice vs c.args.endings.now
      (c.turn_both.new.first ++ c.turn_both.new.second) (c.turn_both.new.front ++ c.turn_both.new.back))
      (sym c.split_at_mut-front.ensures.value)
      (subst (λ (es : List Ended). AreEachGoneOn n c.args.task.slice
      (c.split_at_mut-front.result.0.now ++ c.split_at_mut-front.result.1.now) es
      (c.turn_both.new.first ++ c.turn_both.new.second) (c.turn_both.new.front ++ c.turn_both.new.back))
      (sym c.split_at_mut-first.ensures.value)
      (both_on c.args.task.slice n _ _ _ _ _ _ _ _ (c.turn_both.ensures.front.1 n l u)
      (c.turn_both.ensures.back.1 n l u))),
)

pub turn_both-join_mut-requires-send-F : goal.turn_both-join_mut-requires-send-F
turn_both-join_mut-requires-send-F g t c κs within =
    search (sendable, worker_send, ended_send, task.the_sync) depth 40
