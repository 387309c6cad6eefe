use Rattle.std.proofs.Common.{[], rules}
use Rattle.tproc.proofs.AgreeingLinks.{still_linked}
use Rattle.tproc.proofs.engine.Engine.disable.Goals as goal

pub invariant_of-self-clause-agrees : goal.invariant_of-self-clause-agrees
invariant_of-self-clause-agrees c =
    still_linked _ _ _ _ c.set_link.ensures (search rules) (search rules) [] _ c.args.self.now.agrees
