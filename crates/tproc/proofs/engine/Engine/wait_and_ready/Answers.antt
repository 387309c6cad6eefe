use Rattle.std.proofs.Common.{refl}
use Rattle.std.proofs.lemmas.Result.{err_from_is_err_and}
use Rattle.tproc.proofs.engine.Engine.wait_and_ready.Goals as goal

pub returns-in_err-may_leave : goal.returns-in_err-may_leave
returns-in_err-may_leave c =
    let p = err_from_is_err_and c.from_residual.result c.from_residual.ensures.1 in
    rw (p.1, p.2, c.in_err-may_leave.ensures.refused _ _ _ refl) (refl, refl, refl)
