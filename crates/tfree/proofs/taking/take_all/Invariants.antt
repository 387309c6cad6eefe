use Rattle.std.proofs.Common.{◌≡◌, ℕ, ◌≤◌}
use Rattle.std.specs.Prelude.{vec_capacity}
use Rattle.tfree.specs.Opened.{worker_of}
use Rattle.tfree.specs.TakenApart.{AreTaken}
use Rattle.tfree.proofs.taking.take_all.Given as goal

abbrev pub invariant-loop-number : goal.invariant-loop-number
invariant-loop-number l = record {
  rest : (j : ℕ) → l.number ≤ j → worker_of j l.workers.items ≡ worker_of j l.fn.workers.items;
  taken : AreTaken l.fn.workers.items l.number l.all;
  nodes : 64 ≤ vec_capacity l.all.nodes;
  ins : 64 ≤ vec_capacity l.all.ins;
  outs : 64 ≤ vec_capacity l.all.outs;
  taken_room : l.count ≤ vec_capacity l.all.taken;
}
