use Rattle.std.proofs.Common.{◌-◌, ◌≤◌}
use Rattle.tfree.specs.Turning.{AreEachTurned}
use Rattle.tfree.proofs.turning.turn_in_stages.Given as goal

abbrev pub invariant-loop-made : goal.invariant-loop-made
invariant-loop-made g l = record {
  within : l.made ≤ l.turns;
  each : AreEachTurned l.made l.slice l.fn.workers l.endings l.workers;
}

abbrev pub decreases-loop-made : goal.decreases-loop-made
decreases-loop-made g l = l.turns - l.made
