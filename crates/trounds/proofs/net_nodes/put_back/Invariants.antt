use Rattle.std.proofs.Common.{◌≡◌, ◌-◌, take, map, vec_len, vec_capacity}
use Rattle.trounds.specs.declared.round_node.RoundNode.{RoundNode}
use Rattle.trounds.proofs.net_nodes.put_back.Given as goal

abbrev pub invariant-loop-place : goal.invariant-loop-place
invariant-loop-place l = record {
  round_nodes : l.round_nodes.items ≡ take (l.count - l.place) l.initial.round_nodes.items;
  left : vec_len l.round_nodes ≡ l.count - l.place;
  nodes : l.nodes.items ≡ map (λ (c : RoundNode). c.node) (take l.place l.fn.round_nodes.items);
  nodes_done : vec_len l.nodes ≡ l.place;
  node_room : vec_capacity l.nodes ≡ vec_capacity l.initial.nodes;
  boxes : l.inboxes.items ≡ map (λ (c : RoundNode). c.inboxes) (take l.place l.fn.round_nodes.items);
  boxes_done : vec_len l.inboxes ≡ l.place;
  box_room : vec_capacity l.inboxes ≡ vec_capacity l.initial.inboxes;
}
