use Rattle.std.proofs.Common.{◌≡◌, ◌+◌, ℕ, List, sym, ap, ◌∙◌, length, arith, not, Bool}
use Rattle.std.specs.Prelude.{◌||◌, ◌==◌, filter}
use Rattle.std.specs.List.{list_any}
use Rattle.twhere.specs.declared.node_set.NodeSet.{NodeSet}
use Rattle.twhere.specs.Circles.{is_among, numbers_from, waiting_for}
use Rattle.twhere.specs.NodeSets.{has_node, set_waits}
use Rattle.twhere.proofs.NodeBits.{none_set}
use Rattle.twhere.proofs.CircleSets.{all_put, left_out, one_waits, put_in}
use Rattle.twhere.proofs.circles.waiting_for.Goals as goal
use Rattle.twhere.proofs.circles.waiting_for.Goals.{then-not-is_empty, else-not-is_empty}

pub loop-node-init : goal.loop-node-init
loop-node-init c = λ xs same n.
    ap (λ (b : Bool). b
    || is_among (waiting_for (length c.args.waits.now) (set_waits c.args.waits.now) c.args.lowest xs) n)
    (ap (λ (s : NodeSet). has_node s n) c.none-all.ensures ∙ none_set n)

pub loop-node-preserved : goal.loop-node-preserved
loop-node-preserved c = λ xs same n.
    let passes : list_any (set_waits c.args.waits.now c.loop-node.node) xs ≡ not c.is_empty.result =
    one_waits c.both.result (set_waits c.args.waits.now c.loop-node.node) c.args.ends xs c.is_empty.result same
    c.both.ensures c.is_empty.ensures.none c.is_empty.ensures.one in
    let left : Bool = is_among
    (filter (λ a. list_any (set_waits c.args.waits.now a) xs)
    (numbers_from (c.loop-node.node + 1) (length c.args.waits.now)))
    n in
    elim c.if-not-is_empty.branch [
      | then-not-is_empty w ↦
          ap (λ (s : NodeSet). has_node s n || left) w.all-is
          ∙ ap (λ (b : Bool). b || left) (w.with-all.ensures n)
          ∙ put_in (λ a. list_any (set_waits c.args.waits.now a) xs) c.loop-node.node (length c.args.waits.now) n
          (has_node c.loop-node.all n) c.loop-node-test.true (passes ∙ ap not w.if-not-is_empty.true)
          ∙ c.loop-node.invariant xs same n
      | else-not-is_empty w ↦
          ap (λ (s : NodeSet). has_node s n || left) w.all-is
          ∙ left_out (λ a. list_any (set_waits c.args.waits.now a) xs) c.loop-node.node (length c.args.waits.now) n
          (has_node c.loop-node.all n) c.loop-node-test.true (passes ∙ ap not w.if-not-is_empty.false)
          ∙ c.loop-node.invariant xs same n
    ]

pub returns : goal.returns
returns c = λ xs same n.
    all_put (λ a. list_any (set_waits c.args.waits.now a) xs) c.loop-node.node (length c.args.waits.now) n
    (has_node c.loop-node.all n) (omega arith)
    ∙ c.loop-node.invariant xs same n
