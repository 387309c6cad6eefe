use Rattle.std.proofs.Common.{◌≡◌, length}
use Rattle.std.specs.Prelude.{vec_capacity}
use Rattle.tfree.specs.Ends.{ins_view, outs_view}
use Rattle.tfree.specs.Drained.{AreLeftAt, AreSameFrom}
use Rattle.tfree.proofs.draining.drain_all.Given as goal

abbrev pub invariant-loop-node : goal.invariant-loop-node
invariant-loop-node l = record {
  left : AreLeftAt l.wires (ins_view l.initial.ins) (outs_view l.initial.outs) l.node l.inboxes.items;
  ins : AreSameFrom l.node (ins_view l.initial.ins) (ins_view l.ins);
  rows : length l.ins ≡ length l.initial.ins;
  outs : outs_view l.outs ≡ outs_view l.initial.outs;
  room : vec_capacity l.inboxes ≡ vec_capacity l.initial.inboxes;
}
