use Rattle.std.proofs.Common.{[], ◌∷◌}
use Rattle.tproc.proofs.Agreeing.{agrees_but}
use Rattle.tproc.proofs.engine.Engine.yield_now.Goals as goal

pub invariant_of-self-clause-agrees : goal.invariant_of-self-clause-agrees
invariant_of-self-clause-agrees c =
    rw (c.enqueue.ensures.claims, c.set_saved_word.ensures.claims)
    (c.enqueue.ensures.settles [] _
    (rw (c.own-process.ensures.own.workspace, ← c.registers-r.ensures)
    (c.rest.ensures.agrees (_ ∷ []) _ (agrees_but _ [] _ _ _ c.args.self.now.agrees c.deschedule.ensures.fresh
    c.deschedule.ensures.claims))))
