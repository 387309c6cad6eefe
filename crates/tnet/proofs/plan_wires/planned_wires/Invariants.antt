use Rattle.std.proofs.Common.{◌≡◌, take}
use Rattle.tplan.specs.Wires.{all_wires}
use Rattle.tnet.proofs.plan_wires.planned_wires.Given as goal

-- the wires so far
abbrev pub invariant-loop-place : goal.invariant-loop-place
invariant-loop-place l = l.wires.items ≡ take l.place (all_wires l.plan)
