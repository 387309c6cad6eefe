use Rattle.std.proofs.Common.{◌≡◌, ◌+◌}
use Rattle.tfree.specs.Turns.{Times, Receives}
use Rattle.tfree.proofs.worker.Worker.packets.Given as goal

abbrev pub invariant-loop-done : goal.invariant-loop-done
invariant-loop-done l = record {
  same : l.self.share ≡ l.fn.self.share;
  done : Times l._done (Receives l.fn.self.share (l.fn.self.share.first + l.i) l.link) l.fn.self.events l.self.events;
}
