use Rattle.std.proofs.Common.{◌≡◌, ◌≤◌, ◌<◌, ℕ, ◌+◌, sym, ap, ◌∙◌, List, length, get_or, arith}
use Rattle.std.proofs.Math.ListN.{length-set}
use Rattle.tproc.specs.declared.waiter.Waiter.{Waiter}
use Rattle.tlink.specs.Node.{NodeState}
use Rattle.twhere.specs.declared.listing.Listed.{Listed}
use Rattle.twhere.specs.NodeSets.{no_nodes}
use Rattle.twhere.specs.Standing.{by_descriptor, listed_of}
use Rattle.twhere.specs.Waits.{role_waits}
use Rattle.twhere.proofs.WhereNodes.{listed_at}
use Rattle.twhere.proofs.AwaitedNodes.{adds_as, awaited_before, awaited_behind, none_awaited, whole_awaited}
use Rattle.twhere.proofs.awaited.all_awaited.Goals as goal

pub loop-number-init : goal.loop-number-init
loop-number-init c = record {
  size = (search);
  so_far = λ a b l. absurd (omega (arith, l));
  others = λ a b l. none_awaited c.none-all.result c.none-all.ensures 64 a b;
}

pub loop-number-preserved : goal.loop-number-preserved
loop-number-preserved c =
    let below : c.loop-number.number < length c.args.net.now.nodes =
    rw c.nodes-node-items.ensures.held at c.loop-number-test.true in
    let is : c.node-item.result ≡ get_or c.args.net.now.nodes c.loop-number.number c.node-item.result =
    rw c.nodes-node-items.ensures.held at c.node-item.is in
    let listed : c.index-listed-number.result ≡ listed_of c.node-item.result.machine.control =
    listed_at c.loop-number.number c.args.net.now.nodes c.args.listed.now c.node-item.result
    c.index-listed-number.result c.requires.listed below c.index-listed-number.is ∙ ap (λ (n : NodeState).
    listed_of n.machine.control) (sym is) in
    let waits = adds_as c.with_node.ensures
    (ap (λ (ws : List Waiter). role_waits c.node-item.result.role c.node-item.result ws)
    (c.as_slice.ensures ∙ ap (λ (l : Listed). l.waiting) (sym c.index-listed-number.is ∙ listed))) in
    record {
      size = length-set c.loop-number.all c.loop-number.number c.with_node.result ∙ c.loop-number.invariant.size;
      so_far = awaited_before c.args.net.now c.loop-number.all c.loop-number.number c.node-item.result c.none.result
          c.with_node.result (omega arith) below is c.none.ensures waits c.loop-number.invariant.so_far;
      others = awaited_behind c.loop-number.all c.loop-number.number c.with_node.result c.loop-number.invariant.others;
    }

pub returns : goal.returns
returns c =
    let over : length c.args.net.now.nodes ≤ c.loop-number.number =
    rw c.nodes-node-items.ensures.held at c.loop-number-test.false in
    whole_awaited c.args.net.now c.loop-number.all c.loop-number.number over c.loop-number.invariant.so_far
    c.loop-number.invariant.others
