use Rattle.std.proofs.Common.{◌≡◌, ◌-◌, take, vec_len, vec_capacity}
use Rattle.trounds.specs.RoundNodes.{stations_of}
use Rattle.trounds.proofs.TakenOut.{laid}
use Rattle.trounds.proofs.net_nodes.take_out.Given as goal

abbrev pub invariant-loop-place : goal.invariant-loop-place
invariant-loop-place l = record {
  nodes : l.nodes.items ≡ take (l.count - l.place) l.initial.nodes.items;
  left : vec_len l.nodes ≡ l.count - l.place;
  node_room : vec_capacity l.nodes ≡ vec_capacity l.initial.nodes;
  stations : stations_of l.round_nodes.items ≡ take l.place (laid l.wires l.inboxes.items 0 l.fn.net.nodes);
  done : vec_len l.round_nodes ≡ l.place;
  room : vec_capacity l.round_nodes ≡ vec_capacity l.initial.round_nodes;
}
