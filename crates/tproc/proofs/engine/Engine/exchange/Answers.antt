use Rattle.std.proofs.Common.{[]}
use Rattle.tproc.proofs.engine.Engine.exchange.Goals as goal

pub invariant_of-self-2-clause-agrees : goal.invariant_of-self-2-clause-agrees
invariant_of-self-2-clause-agrees c =
    c.go.ensures.agrees [] _
    (c.release.ensures.agrees [] _
    (rw (c.release.ensures.claims, c.copy.ensures.claims, c.set_word.ensures.claims, c.lay.ensures.claims)
    c.args.self.now.agrees))
