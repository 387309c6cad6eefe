use Rattle.std.proofs.Common.{◌-◌}
use Rattle.tverdict.specs.Machines.{Follows}
use Rattle.tverdict.proofs.machine.Machine.certify.Given as goal

abbrev pub invariant-loop-self : goal.invariant-loop-self
invariant-loop-self l = Follows l.plan l.self

abbrev pub decreases-loop-self : goal.decreases-loop-self
decreases-loop-self l = l.most_steps - l.self.done
