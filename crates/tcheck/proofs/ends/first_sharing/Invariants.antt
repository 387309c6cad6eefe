use Rattle.std.proofs.Common.{◌≡◌, drop}
use Rattle.tcheck.specs.Wrongs.{first_sharing}
use Rattle.tcheck.proofs.ends.first_sharing.Given as goal

-- the wires from this one on decide
abbrev pub invariant-loop-number : goal.invariant-loop-number
invariant-loop-number l =
    first_sharing l.wire 0 l.earlier ≡ first_sharing l.wire l.number (drop l.number l.earlier)
