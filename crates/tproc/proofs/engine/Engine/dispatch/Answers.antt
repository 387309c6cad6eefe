use Rattle.std.proofs.Common.{subst, sym}
use Rattle.tproc.specs.Machine.{Control}
use Rattle.tproc.specs.SavedWords.{IsThreaded}
use Rattle.tproc.proofs.engine.Engine.dispatch.Goals as goal

pub take_high-requires-clause-threaded : goal.take_high-requires-clause-threaded
take_high-requires-clause-threaded c = c.requires 0

pub take_low-requires-clause-threaded : goal.take_low-requires-clause-threaded
take_low-requires-clause-threaded c =
    subst (λ (m : Control). IsThreaded c.args.self.now.claimed.memory.bytes m.low) (sym c.in_default.ensures.none.1)
    (c.requires 1)
