use Rattle.std.proofs.Common.{refl, []}
use Rattle.std.proofs.lemmas.Result.{err_from_is_err_and}
use Rattle.tproc.proofs.engine.Engine.run_process.Goals as goal

pub returns-in_err-admit : goal.returns-in_err-admit
returns-in_err-admit c =
    let p = err_from_is_err_and c.from_residual.result c.from_residual.ensures.1 in
    let refused = rw c.registers-r.ensures at c.in_err-admit.ensures.done in
    rw (p.1, p.2, refused _ _ refl) (refl, refl, (rw c.admit.ensures.memory refl))

pub invariant_of-self-2-clause-agrees : goal.invariant_of-self-2-clause-agrees
invariant_of-self-2-clause-agrees c =
    rw c.enqueue.ensures.claims
    (c.go.ensures.agrees [] _ (c.enqueue.ensures.settles [] _ c.in_ok-admit.ensures.agrees))
