use Rattle.std.proofs.Common.{◌≡◌, take, false}
use Rattle.std.specs.List.{list_any}
use Rattle.tplan.specs.Wires.{all_wires}
use Rattle.tnet.specs.Building.{share_an_end}
use Rattle.tnet.proofs.faults.is_end_twice.Given as goal

-- none of the wires so far has one of the ends
abbrev pub invariant-loop-earlier : goal.invariant-loop-earlier
invariant-loop-earlier l =
    list_any (share_an_end l.wire) (take l.earlier (all_wires l.plan)) ≡ false
