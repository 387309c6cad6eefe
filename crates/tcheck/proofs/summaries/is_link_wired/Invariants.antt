use Rattle.std.proofs.Common.{◌≡◌, drop}
use Rattle.tplan.specs.Wires.{end_at, far_end}
use Rattle.tcheck.proofs.summaries.is_link_wired.Given as goal

-- the wires from this one on decide
abbrev pub invariant-loop-wire : goal.invariant-loop-wire
invariant-loop-wire l =
    far_end l.wires (end_at l.node l.link) ≡ far_end (drop l.wire-index l.wires) (end_at l.node l.link)
