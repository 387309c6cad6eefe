use Rattle.tword.specs.Words.{word_below}
use Rattle.tword.specs.Actions.{◌>>=◌}
use Rattle.tproc.specs.Machine.{workspace_of}
use Rattle.tproc.specs.Channels.{set_touched_word, ready}
use Rattle.std.proofs.lemmas.Result.{err_from_is_err_and}
use Rattle.tproc.proofs.engine.Engine.may_leave_and_set.Goals as goal

pub returns-in_err-may_leave-clause-refused : goal.returns-in_err-may_leave-clause-refused
returns-in_err-may_leave-clause-refused c =
    let p = err_from_is_err_and c.from_residual.result c.from_residual.ensures.1 in
    rw (p.1, p.2)
    (λ f old new e. c.in_err-may_leave.ensures.refused
    (λ _. set_touched_word c.args.self.now.state.registers.wptr (word_below (workspace_of c.args.other) 3) ready >>= f)
    old new e)
