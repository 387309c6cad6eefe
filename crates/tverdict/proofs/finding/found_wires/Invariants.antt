use Rattle.std.proofs.Common.{take}
use Rattle.tverdict.specs.Opening.{AreEnds}
use Rattle.tverdict.proofs.finding.found_wires.Given as goal

abbrev pub invariant-loop-wire : goal.invariant-loop-wire
invariant-loop-wire l = AreEnds (take l.wire-index l.wires) l.agents.items
