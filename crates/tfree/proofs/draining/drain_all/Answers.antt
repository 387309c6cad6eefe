use Rattle.std.proofs.Common.{◌≡◌, ◌+◌, ◌<◌, ◌∙◌, sym, ap, subst, arith, List, length, length-set, []}
use Rattle.std.specs.Prelude.{Option, option_map, slice_index_or}
use Rattle.tnet.specs.Net.{empty_inbox}
use Rattle.tplan.specs.Wires.{end_at}
use Rattle.tfree.specs.Drained.{IsLeftAt, AreLeftAt}
use Rattle.tfree.specs.Ends.{in_view, ins_view, outs_view}
use Rattle.tfree.specs.Slots.{slot_at, slot_of_end}
use Rattle.tfree.specs.Views.{InView, OutView}
use Rattle.tfree.proofs.RowsLeft.{other_row, left_more}
use Rattle.tfree.proofs.LinkSlots.{slot-map}
use Rattle.tfree.proofs.draining.drain_all.Goals as goal

pub drain_node-left-requires : goal.drain_node-left-requires
drain_node-left-requires c = λ l b f wire.
    let i = c.loop-node.invariant in
    let n = c.loop-node.node in
    let j = c.requires.joined n l (omega (arith, c.loop-node-test.true)) b f wire in (
      subst (λ (o : List (List (Option OutView))). f.node < length o) (sym i.outs) j.0,
      subst (λ (o : List (List (Option OutView))). length (slice_index_or o f.node []) ≡ 4) (sym i.outs) j.1,
      j.2,
      ap (option_map (λ (v : InView). v.id)) (sym (slot-map in_view c.loop-node.ins n l) ∙ i.ins n l (omega arith))
          ∙ j.3
          ∙ ap (λ (o : List (List (Option OutView))). option_map (λ (v : OutView). v.id) (slot_of_end o f))
          (sym i.outs),
    )

pub loop-node-preserved : goal.loop-node-preserved
loop-node-preserved c =
    let i = c.loop-node.invariant in
    let n = c.loop-node.node in
    let wires = c.args.wires.now in
    let ins = ins_view c.args.ins.now in
    let outs = outs_view c.args.outs.now in
    let left = c.drain_node-left.result in
    record {
      left = subst (AreLeftAt wires ins outs (n + 1)) (sym c.push_reserved.ensures.items)
          (left_more wires ins outs n c.loop-node.inboxes.items left c.drain_node-left.ensures.four i.left
          (λ l b. subst (λ (o : List (List (Option OutView))). IsLeftAt wires (slot_at ins n l) o (end_at n l)
          (slice_index_or left l empty_inbox)) i.outs
          (subst (λ (v : Option InView). IsLeftAt wires v (outs_view c.loop-node.outs) (end_at n l)
          (slice_index_or left l empty_inbox))
          (sym (slot-map in_view c.loop-node.ins n l) ∙ i.ins n l (omega arith))
          (c.drain_node-left.ensures.left l b))));
      ins = λ m l b.
          other_row in_view c.loop-node.ins n c.drain_node-left.new.slots m l (λ q. omega (arith, b, q))
          ∙ i.ins m l (omega (arith, b));
      rows = length-set c.loop-node.ins n c.drain_node-left.new.slots ∙ i.rows;
      outs = c.drain_node-left.ensures.outs ∙ i.outs;
      room = omega (arith, c.push_reserved.ensures.capacity, i.room);
    }
