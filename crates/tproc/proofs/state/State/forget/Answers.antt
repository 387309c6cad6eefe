use Rattle.std.proofs.Common.{◌≤◌, arith, refl}
use Rattle.tproc.specs.Agreement.{descheduled_count}
use Rattle.tproc.proofs.Agreeing.{fewer_forgotten, still_saved_forgotten, unsettles_forgotten}
use Rattle.tproc.proofs.state.State.forget.Goals as goal

pub returns-clause-done : goal.returns-clause-done
returns-clause-done c = rw (← c.self.view_is, c.forget.ensures) refl

pub returns-clause-unsettles : goal.returns-clause-unsettles
returns-clause-unsettles c =
    unsettles_forgotten c.args.process c.args.self.now _ c.requires.apart c.requires.waits (returns-clause-done c)

pub returns-clause-fewer : goal.returns-clause-fewer
returns-clause-fewer c =
    fewer_forgotten c.args.process c.args.self.now _ c.requires.apart c.requires.waits (returns-clause-done c)

pub returns-clause-place : goal.returns-clause-place
returns-clause-place c =
    let few : descheduled_count c.args.self.now ≤ 512 =
    rw (← c.self.view_is) (omega (arith, c.len-count.ensures.is, c.len-count.ensures.few)) in
    omega (arith, few, returns-clause-fewer c)

pub returns-clause-saved : goal.returns-clause-saved
returns-clause-saved c =
    still_saved_forgotten c.args.process c.args.self.now _ c.requires.apart c.requires.waits (returns-clause-done c)
