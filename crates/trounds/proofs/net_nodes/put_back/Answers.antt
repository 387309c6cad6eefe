use Rattle.std.proofs.Common.{◌≡◌, refl, ap, ◌∙◌, arith, length, List}
use Rattle.std.proofs.lemmas.List.{length-reverse}
use Rattle.trounds.specs.declared.round_node.RoundNode.{RoundNode}
use Rattle.trounds.proofs.TakenOut.{last_removed, last_read, back_more, all_back}
use Rattle.trounds.proofs.net_nodes.put_back.Goals as goal

pub loop-place-preserved : goal.loop-place-preserved
loop-place-preserved c =
    let count : length c.args.round_nodes.items ≡ c.len-count.result =
    omega (arith, c.args.round_nodes.ok, c.len-count.ensures) in
    let turned : length c.reverse.new.self.items ≡ c.len-count.result =
    omega (
      arith,
      ap (λ (xs : List RoundNode). length xs) c.reverse.ensures.items,
      length-reverse c.args.round_nodes.items,
      count,
    ) in
    let read = last_read c.args.round_nodes.items c.loop-place.round_nodes.items c.len-count.result c.loop-place.place _
    c.remove-node.result count c.loop-place-test.true
    (rw c.reverse.ensures.items at c.loop-place.invariant.round_nodes) refl c.remove-node.ensures.value in
    record {
      round_nodes =
          last_removed c.reverse.new.self.items c.loop-place.round_nodes.items c.remove-node.new.self.items
          c.len-count.result c.loop-place.place _ turned c.loop-place-test.true c.loop-place.invariant.round_nodes refl
          c.remove-node.ensures.by_index.2;
      left = omega (arith, c.remove-node.ensures.len, c.loop-place.invariant.left);
      nodes = back_more (λ (x : RoundNode). x.node) c.args.round_nodes.items c.loop-place.place c.remove-node.result
          c.loop-place.nodes.items _ (omega (arith, count, c.loop-place-test.true)) read c.loop-place.invariant.nodes
          c.push_reserved.ensures.items;
      nodes_done = omega (arith, c.push_reserved.ensures.len, c.loop-place.invariant.nodes_done);
      node_room = c.push_reserved.ensures.capacity ∙ c.loop-place.invariant.node_room;
      boxes = back_more (λ (x : RoundNode). x.inboxes) c.args.round_nodes.items c.loop-place.place c.remove-node.result
          c.loop-place.inboxes.items _ (omega (arith, count, c.loop-place-test.true)) read c.loop-place.invariant.boxes
          c.push_reserved-in-loop-place.ensures.items;
      boxes_done = omega (arith, c.push_reserved-in-loop-place.ensures.len, c.loop-place.invariant.boxes_done);
      box_room = c.push_reserved-in-loop-place.ensures.capacity ∙ c.loop-place.invariant.box_room;
    }

pub from_parts-requires : goal.from_parts-requires
from_parts-requires c =
    let count : length c.args.round_nodes.items ≡ c.len-count.result =
    omega (arith, c.args.round_nodes.ok, c.len-count.ensures) in
    let back = all_back c.args.parts.wires c.args.round_nodes.items c.loop-place.place _ _
    (omega (arith, count, c.loop-place-test.false)) c.loop-place.invariant.nodes c.loop-place.invariant.boxes in
    rw (← back) at c.requires.sound

pub returns : goal.returns
returns c =
    let count : length c.args.round_nodes.items ≡ c.len-count.result =
    omega (arith, c.args.round_nodes.ok, c.len-count.ensures) in
    c.from_parts.ensures
    ∙ all_back c.args.parts.wires c.args.round_nodes.items c.loop-place.place _ _
    (omega (arith, count, c.loop-place-test.false)) c.loop-place.invariant.nodes c.loop-place.invariant.boxes
