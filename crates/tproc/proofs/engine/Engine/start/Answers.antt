use Rattle.std.proofs.Common.{◌≡◌, true, refl, rules, []}
use Rattle.tword.specs.Touches.{is_aligned}
use Rattle.std.proofs.lemmas.Result.{err_from_is_err_and}
use Rattle.tproc.proofs.engine.Engine.start.Goals as goal

pub returns-in_err-admit : goal.returns-in_err-admit
returns-in_err-admit c =
    let p = err_from_is_err_and c.from_residual-in_err-admit.result c.from_residual-in_err-admit.ensures.1 in
    let refused = rw (
      c.new-process.ensures,
      c.get-2.ensures,
      c.from.ensures,
      c.number.ensures.is,
      c.registers-r.ensures,
    ) at
    c.in_err-admit.ensures.done in
    let aligned : is_aligned c.args.self.now.state.registers.a ≡ true = search rules in
    rw (p.1, p.2, aligned, refused _ _ refl) (refl, refl, (rw c.admit.ensures.memory refl))

pub invariant_of-self-2-clause-agrees : goal.invariant_of-self-2-clause-agrees
invariant_of-self-2-clause-agrees c =
    rw (c.enqueue.ensures.claims, c.set_saved_word.ensures.claims)
    (c.go.ensures.agrees [] _ (c.enqueue.ensures.settles [] _ c.in_ok-admit.ensures.agrees))
