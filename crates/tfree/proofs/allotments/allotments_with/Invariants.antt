use Rattle.std.proofs.Common.{◌≡◌, ◌-◌, length, drop}
use Rattle.tnet.specs.NetParts.{net_of_parts}
use Rattle.tfree.specs.Ends.{ins_view, outs_view}
use Rattle.tfree.specs.Opened.{first_of}
use Rattle.tfree.specs.Allotments.{AreAllotments}
use Rattle.tfree.proofs.allotments.allotments_with.Given as goal

abbrev pub invariant-loop-allotment : goal.invariant-loop-allotment
invariant-loop-allotment l = record {
  left : l.left ≡ length l.parts.nodes.items - first_of (length l.parts.nodes.items) l.workers l._allotment;
  ins : ins_view l.ins.items ≡ drop (first_of (length l.parts.nodes.items) l.workers l._allotment)
      (ins_view l.fn.ins.items);
  outs : outs_view l.outs.items ≡ drop (first_of (length l.parts.nodes.items) l.workers l._allotment)
      (outs_view l.fn.outs.items);
  allotments : AreAllotments (net_of_parts l.parts) l.workers (ins_view l.fn.ins.items) (outs_view l.fn.outs.items) 0
      l.allotments.items;
  all : length l.allotments.items ≡ l._allotment;
}
