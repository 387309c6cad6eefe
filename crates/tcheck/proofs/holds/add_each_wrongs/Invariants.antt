use Rattle.std.proofs.Common.{◌≡◌, ◌++◌, drop}
use Rattle.tcheck.specs.HoldWrongs.{one_hold_wrongs}
use Rattle.tcheck.specs.Wrongs.{each_from}
use Rattle.tcheck.proofs.holds.add_each_wrongs.Given as goal

-- what was found, and what is left
abbrev pub invariant-loop-number : goal.invariant-loop-number
invariant-loop-number l =
    l.found.items ++ each_from (one_hold_wrongs l.wires) l.number (drop l.number l.holds)
    ≡ l.initial.found.items ++ each_from (one_hold_wrongs l.wires) 0 l.holds
