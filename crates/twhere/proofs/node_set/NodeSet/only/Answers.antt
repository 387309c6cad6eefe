use Rattle.std.proofs.Common.{ap, ◌∙◌, Bool}
use Rattle.std.specs.Prelude.{◌||◌, ◌==◌}
use Rattle.twhere.specs.declared.node_set.NodeSet.{NodeSet}
use Rattle.twhere.specs.NodeSets.{has_node}
use Rattle.twhere.proofs.NodeBits.{none_set}
use Rattle.twhere.proofs.node_set.NodeSet.only.Goals as goal

pub returns : goal.returns
returns c n =
    c.with.ensures n
    ∙ ap (λ (s : NodeSet). has_node s n || (c.args.node == n)) c.none.ensures
    ∙ ap (λ (b : Bool). b || (c.args.node == n)) (none_set n)
