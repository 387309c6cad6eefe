use Rattle.std.proofs.Common.{◌≡◌}
use Rattle.tfree.specs.Turns.{Times}
use Rattle.tfree.specs.Turning.{WholeTurn}
use Rattle.tfree.proofs.worker.Worker.turns.Given as goal

abbrev pub invariant-loop-made : goal.invariant-loop-made
invariant-loop-made l = record {
  same : l.self.share ≡ l.fn.self.share;
  done : Times l.made (WholeTurn l.fn.self.share l.task.slice) l.fn.self.events l.self.events;
}
