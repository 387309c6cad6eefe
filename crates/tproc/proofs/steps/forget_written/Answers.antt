use Rattle.tproc.proofs.Fetched.{forgotten_nothing}
use Rattle.tproc.proofs.steps.forget_written.Goals.{else-may_keep_any-via-then-may_keep_any+else-may_write}
use Rattle.tproc.proofs.steps.forget_written.Goals.{else-may_keep_any-via-else-may_keep_any}
use Rattle.tproc.proofs.steps.forget_written.Goals as goal

pub returns-else-may_keep_any : goal.returns-else-may_keep_any
returns-else-may_keep_any c =
    elim c.else-may_keep_any.branch [
      | else-may_keep_any-via-then-may_keep_any+else-may_write w ↦
          forgotten_nothing _ c.args.codes.now.entries.items
          (w.may_write.ensures w.if-may_write.false c.args.kind c.args.registers.now)
      | else-may_keep_any-via-else-may_keep_any w ↦ c.may_keep_any.ensures w.if-may_keep_any.false _
    ]
