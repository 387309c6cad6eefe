use Rattle.std.proofs.Common.{◌≡◌, ℕ, refl, sym, ap, ◌∙◌, arith, ◌-◌, length, get_or, take, reverse, List, [], ◌∷◌}
use Rattle.std.proofs.lemmas.List.{map-append, length-reverse, get_or_read}
use Rattle.tlink.specs.Node.{NodeState}
use Rattle.tnet.specs.Net.{NetState}
use Rattle.tnet.specs.declared.inbox.Inbox.{Inbox}
use Rattle.trounds.specs.RoundNodes.{station_of, stations_of}
use Rattle.trounds.proofs.TakenOut.{last_removed, last_read, station_more, all_laid, same_station, row_is}
use Rattle.trounds.proofs.net_nodes.take_out.Goals as goal

pub loop-place-preserved : goal.loop-place-preserved
loop-place-preserved c =
    let nodes : c.into_parts-nodes.result.nodes.items ≡ c.args.net.nodes =
    ap (λ (n : NetState). n.nodes) c.into_parts-nodes.ensures.same in
    let reversed : c.reverse.new.self.items ≡ reverse c.args.net.nodes = c.reverse.ensures.items
    ∙ ap (λ (xs : List NodeState). reverse xs) nodes in
    let count : length c.args.net.nodes ≡ c.len-count.result =
    omega (
      arith,
      ap (λ (xs : List NodeState). length xs) nodes,
      c.into_parts-nodes.result.nodes.ok,
      c.len-count.ensures,
    ) in
    let turned : length c.reverse.new.self.items ≡ c.len-count.result =
    omega (arith, ap (λ (xs : List NodeState). length xs) reversed, length-reverse c.args.net.nodes, count) in
    let read : c.remove-node.result ≡ _ =
    last_read c.args.net.nodes c.loop-place.nodes.items c.len-count.result c.loop-place.place _ c.remove-node.result
    count c.loop-place-test.true (rw reversed at c.loop-place.invariant.nodes) refl c.remove-node.ensures.value in
    let even : length c.into_parts-nodes.result.inboxes.items ≡ length c.args.net.nodes =
    ap (λ (n : NetState). length n.inboxes) c.into_parts-nodes.ensures.same
    ∙ c.into_parts-nodes.ensures.sound.boxes in
    let box : c.index.result.now ≡ get_or c.into_parts-nodes.result.inboxes.items c.loop-place.place [] =
    get_or_read c.into_parts-nodes.result.inboxes.items c.loop-place.place c.index.result.now
    (omega (arith, even, count, c.loop-place-test.true)) c.index.ensures [] in
    record {
      nodes = last_removed c.reverse.new.self.items c.loop-place.nodes.items c.remove-node.new.self.items
          c.len-count.result c.loop-place.place _ turned c.loop-place-test.true c.loop-place.invariant.nodes refl
          c.remove-node.ensures.by_index.2;
      left = omega (arith, c.remove-node.ensures.len, c.loop-place.invariant.left);
      node_room = c.remove-node.ensures.capacity ∙ c.loop-place.invariant.node_room;
      stations =
          station_more c.into_parts-nodes.result.wires c.into_parts-nodes.result.inboxes.items c.loop-place.place
          c.args.net.nodes c.remove-node.result (station_of c.new-round_node.result)
          (stations_of c.loop-place.round_nodes.items) _ (omega (arith, count, c.loop-place-test.true)) read
          c.loop-place.invariant.stations
          (c.new-round_node.ensures
          ∙ same_station c.loop-place.place c.remove-node.result _ _ _ _ box
          (row_is c.into_parts-nodes.result.wires c.loop-place.place c.far_ends-far.result (omega arith)
          c.far_ends-far.ensures))
          (ap stations_of c.push_reserved.ensures.items
          ∙ map-append station_of c.loop-place.round_nodes.items (c.new-round_node.result ∷ []));
      done = omega (arith, c.push_reserved.ensures.len, c.loop-place.invariant.done);
      room = c.push_reserved.ensures.capacity ∙ c.loop-place.invariant.room;
    }

pub returns-after-loop-place-clause-placed : goal.returns-after-loop-place-clause-placed
returns-after-loop-place-clause-placed c =
    let nodes : c.into_parts-nodes.result.nodes.items ≡ c.args.net.nodes =
    ap (λ (n : NetState). n.nodes) c.into_parts-nodes.ensures.same in
    let boxes : c.into_parts-nodes.result.inboxes.items ≡ c.args.net.inboxes =
    ap (λ (n : NetState). n.inboxes) c.into_parts-nodes.ensures.same in
    let wires = ap (λ (n : NetState). n.wires) c.into_parts-nodes.ensures.same in
    let sound = c.into_parts-nodes.ensures.sound in
    let count : length c.args.net.nodes ≡ c.len-count.result =
    omega (
      arith,
      ap (λ (xs : List NodeState). length xs) nodes,
      c.into_parts-nodes.result.nodes.ok,
      c.len-count.ensures,
    ) in
    let even : length c.into_parts-nodes.result.inboxes.items ≡ length c.args.net.nodes =
    ap (λ (xs : List (List Inbox)). length xs) boxes ∙ sound.boxes in
    let p = all_laid (length c.args.net.nodes) c.into_parts-nodes.result.wires c.into_parts-nodes.result.inboxes.items
    c.args.net.nodes c.loop-place.place (stations_of c.loop-place.round_nodes.items)
    (rw (← wires) at sound.wires.ends) even (omega (arith, count, c.loop-place-test.false))
    c.loop-place.invariant.stations in
    record {
      same = p.0
          ∙ (ap (λ (xs : List NodeState). record {
            nodes = xs;
            wires = c.into_parts-nodes.result.wires;
            inboxes =
                c.into_parts-nodes.result.inboxes.items;
          }) (sym nodes) ∙ c.into_parts-nodes.ensures.same);
      placed = p.1;
      places = record {
        few = omega (
          arith,
          c.into_parts-nodes.ensures.few,
          c.loop-place.round_nodes.ok.0,
          c.loop-place.invariant.done,
          count,
          c.loop-place.auto.place-end,
        );
        no_nodes = c.loop-place.invariant.nodes
            ∙ ap (λ (k : ℕ). take k c.reverse.new.self.items) (let z : c.len-count.result - c.loop-place.place ≡ 0 =
            omega (arith, c.loop-place-test.false) in z);
        no_boxes = c.clear.ensures.items;
        node_room =
            omega (
              arith,
              c.loop-place.round_nodes.ok.0,
              c.loop-place.invariant.done,
              c.loop-place.auto.place-end,
              c.len-count.ensures,
              c.loop-place.invariant.node_room,
              c.reverse.ensures.capacity,
              c.into_parts-nodes.result.nodes.ok.1,
            );
        box_room =
            omega (
              arith,
              c.loop-place.round_nodes.ok.0,
              c.loop-place.invariant.done,
              c.loop-place.auto.place-end,
              count,
              even,
              c.clear.ensures.capacity,
              c.into_parts-nodes.result.inboxes.ok.0,
              c.into_parts-nodes.result.inboxes.ok.1,
            );
      };
    }
