use Rattle.std.proofs.Common.{refl, sym}
use Rattle.std.proofs.lemmas.Result.{err_from_is_err_and}
use Rattle.tword.specs.Actions.{answer}
use Rattle.tproc.specs.declared.ran.Ran.TheVariants as ran
use Rattle.tproc.specs.Queues.{waiting_for}
use Rattle.tproc.specs.Channels.{reason_for}
use Rattle.tproc.specs.Requests.{request}
use Rattle.tproc.proofs.engine.Engine.wait_and_set.Goals as goal

pub returns-in_err-may_leave_and_set : goal.returns-in_err-may_leave_and_set
returns-in_err-may_leave_and_set c =
    let p = err_from_is_err_and c.from_residual.result c.from_residual.ensures.1 in
    rw (
      p.1,
      p.2,
      c.in_err-may_leave_and_set.ensures.refused
          (λ _. answer (
            waiting_for c.args.q.now.process (reason_for (request c.args.q.now) (request c.args.q.now).side)
                c.args.self.now.state,
            ran.Instruction,
          )) _ _ refl,
    )
    (refl, refl, refl)

pub returns : goal.returns
returns c =
    let set = rw (c.new.ensures, c.below-address.ensures, c.workspace_of.ensures, c.wptr-own.ensures) at
    c.set_touched_word.ensures.done in
    rw (c.leave.ensures.done _ _ refl, set _ c.args.self.now.claimed.memory.bytes (sym c.leave.ensures.shape.size))
    (refl, (rw c.reason.ensures at c.wait.ensures.done), refl)
