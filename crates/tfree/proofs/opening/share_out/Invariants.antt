use Rattle.std.proofs.Common.{◌≡◌, ◌+◌, ◌≤◌, length}
use Rattle.std.specs.Prelude.{vec_len, vec_capacity}
use Rattle.tnet.specs.NetParts.{net_of_parts}
use Rattle.tfree.specs.Opened.{first_of}
use Rattle.tfree.specs.Allotments.{AreSharedOut}
use Rattle.tfree.proofs.opening.share_out.Given as goal

abbrev pub invariant-loop-number : goal.invariant-loop-number
invariant-loop-number l = record {
  shared : AreSharedOut (net_of_parts l.fn.parts) (length l.fn.allotments.items) l.number l.nodes.items
      l.allotments.items l.workers.items;
  first : l.first ≡ first_of (length l.fn.parts.nodes.items) (length l.fn.allotments.items) l.number;
  allotments : length l.allotments.items + l.number ≡ length l.fn.allotments.items;
  workers : vec_len l.workers ≡ l.number;
  capacity : length l.fn.allotments.items ≤ vec_capacity l.workers;
}
