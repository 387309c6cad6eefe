use Rattle.std.proofs.Common.{◌≡◌}
use Rattle.tfree.proofs.worker.Worker.next_turn.Given as goal

abbrev pub invariant-loop-wait : goal.invariant-loop-wait
invariant-loop-wait l = record {
  same : l.self.share ≡ l.fn.self.share;
  nothing : l.self.events ≡ l.fn.self.events;
}
