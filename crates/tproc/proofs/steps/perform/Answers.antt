use Rattle.tcpu.proofs.Quiet.{stays_effect}
use Rattle.tproc.proofs.Fetched.{fetched_outside}
use Rattle.tproc.proofs.Quiet.{begins_effect, told_effect}
use Rattle.tproc.proofs.steps.perform.Goals as goal

pub returns-clause-begins : goal.returns-clause-begins
returns-clause-begins c =
    rw (← c.state.view_is) (begins_effect _ _ _ _ _ _ _ _ c.local.ensures.done)

pub returns-clause-told : goal.returns-clause-told
returns-clause-told c = rw (← c.state.view_is) (told_effect _ _ _ _ _ _ _ _ c.local.ensures.done)

pub returns-clause-stays : goal.returns-clause-stays
returns-clause-stays c = rw (← c.state.view_is) (stays_effect _ _ _ _ _ _ _ _ c.local.ensures.done)

pub invariant_of-claimed-clause-fetched : goal.invariant_of-claimed-clause-fetched
invariant_of-claimed-clause-fetched c =
    fetched_outside _ _ _ _ _ _ c.local.ensures.sized
    (rw c.kind.ensures c.local.ensures.written) c.forget_written.ensures c.args.claimed.now.fetched
