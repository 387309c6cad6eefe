use Rattle.std.proofs.Common.{refl, [], ◌∷◌}
use Rattle.tproc.proofs.Agreeing.{agrees_but}
use Rattle.std.proofs.lemmas.Result.{err_from_is_err_and}
use Rattle.tproc.proofs.engine.Engine.wake_choice.Goals as goal

pub returns-in_err-may_leave : goal.returns-in_err-may_leave
returns-in_err-may_leave c =
    let p = err_from_is_err_and c.from_residual.result c.from_residual.ensures.1 in
    rw (p.1, p.2, c.in_err-may_leave.ensures.refused _ _ _ refl) (refl, refl, refl)

pub wait-requires-clause-agrees : goal.wait-requires-clause-agrees
wait-requires-clause-agrees c =
    rw (c.requires.asks.own.workspace, c.release.ensures.claims, c.set_saved_word.ensures.claims)
    (c.release.ensures.agrees (c.args.self.now.state.registers.wptr ∷ []) _
    (agrees_but _ [] _ _ _ c.args.self.now.agrees c.leave.ensures.fresh c.leave.ensures.claims))
