use Rattle.std.proofs.Common.{◌≡◌, ◌++◌, take, drop}
use Rattle.std.specs.Prelude.{vec_capacity}
use Rattle.tfree.proofs.opening.move_front.Given as goal

abbrev pub invariant-loop-moved : goal.invariant-loop-moved
invariant-loop-moved l = record {
  from : l.from.items ≡ drop l._moved l.fn.from.items;
  to : l.to.items ≡ l.fn.to.items ++ take l._moved l.fn.from.items;
  capacity : vec_capacity l.to ≡ vec_capacity l.fn.to;
}
