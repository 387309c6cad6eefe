use Rattle.std.proofs.Common.{[]}
use Rattle.tproc.proofs.engine.Engine.wake.Goals as goal

pub invariant_of-self-clause-agrees : goal.invariant_of-self-clause-agrees
invariant_of-self-clause-agrees c =
    rw (c.release.ensures.claims, c.set_saved_word.ensures.claims)
    (c.release.ensures.agrees [] _ c.args.self.now.agrees)
