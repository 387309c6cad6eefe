use Rattle.std.proofs.Common.{◌≡◌, ◌-◌, take, drop, vec_capacity}
use Rattle.tnet.proofs.messages.message.Given as goal

abbrev pub invariant-loop-at : goal.invariant-loop-at
invariant-loop-at l = record {
  items : l.bytes.items ≡ take (l.at - l.first) (drop l.first l.all);
  room : vec_capacity l.bytes ≡ vec_capacity l.initial.bytes;
}
