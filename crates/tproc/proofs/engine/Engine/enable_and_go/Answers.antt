use Rattle.std.proofs.Common.{refl}
use Rattle.std.proofs.lemmas.Result.{err_from_is_err_and}
use Rattle.tcpu.specs.Outcomes.{all_to}
use Rattle.tproc.specs.Machine.{Control}
use Rattle.tproc.specs.Channels.{goes_on}
use Rattle.tproc.proofs.engine.Engine.enable_and_go.Goals as goal

pub returns-in_err-enable_guard : goal.returns-in_err-enable_guard
returns-in_err-enable_guard c =
    let p = err_from_is_err_and c.from_residual.result c.from_residual.ensures.1 in
    rw (
      p.1,
      p.2,
      c.in_err-enable_guard.ensures.begins
          (λ (m : Control). goes_on (all_to c.args.self.now.state.registers.a c.args.self.now.state.registers) m),
    )
    (refl, c.in_err-enable_guard.ensures.kept.1, c.in_err-enable_guard.ensures.kept.0)

pub returns : goal.returns
returns c =
    rw (c.in_ok-enable_guard.ensures.begins
    (λ (m : Control). goes_on (all_to c.args.self.now.state.registers.a c.args.self.now.state.registers) m))
    (refl, (rw c.registers-r.ensures at c.go.ensures.done), refl)
