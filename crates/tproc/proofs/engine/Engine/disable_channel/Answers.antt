use Rattle.std.proofs.Common.{refl, Bool}
use Rattle.std.proofs.lemmas.Result.{err_from_is_err_and}
use Rattle.tproc.specs.Machine.{Control}
use Rattle.tproc.specs.Alternatives.{selects}
use Rattle.tproc.proofs.engine.Engine.disable_channel.Goals as goal

pub returns-in_err-guard : goal.returns-in_err-guard
returns-in_err-guard c =
    let p = err_from_is_err_and c.from_residual.result c.from_residual.ensures.1 in
    rw (
      p.1,
      p.2,
      c.in_err-guard.ensures.done
          (λ (q : Control × Bool). selects c.args.self.now.state.registers.a q.1 q.0),
    )
    (refl, refl, refl)

pub returns : goal.returns
returns c =
    rw (c.in_ok-guard.ensures.done (λ (q : Control × Bool). selects c.args.self.now.state.registers.a q.1 q.0))
    c.select.ensures
