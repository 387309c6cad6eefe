use Rattle.std.proofs.Common.{◌≡◌, drop}
use Rattle.tplan.specs.Wires.{far_end}
use Rattle.tcheck.proofs.holds.is_wired.Given as goal

-- the wires from this one on decide
abbrev pub invariant-loop-wire : goal.invariant-loop-wire
invariant-loop-wire l = far_end l.wires l.end ≡ far_end (drop l.wire-index l.wires) l.end
