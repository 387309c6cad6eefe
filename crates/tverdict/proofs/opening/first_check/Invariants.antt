use Rattle.std.proofs.Common.{◌≡◌}
use Rattle.tverdict.specs.Opening as spec
use Rattle.tverdict.proofs.opening.first_check.Given as goal

abbrev pub invariant-loop-agent : goal.invariant-loop-agent
invariant-loop-agent l = l.check ≡ spec.first_check l.places l._agent
