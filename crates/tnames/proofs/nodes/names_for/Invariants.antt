use Rattle.std.proofs.Common.{◌≡◌, drop}
use Rattle.std.specs.Prelude.{find}
use Rattle.tnames.specs.Nodes.{are_of, names_for}
use Rattle.tnames.proofs.nodes.names_for.Given as goal

-- the names are the first of those that are left
abbrev pub invariant-loop-names : goal.invariant-loop-names
invariant-loop-names l = find (are_of l.node) (drop l.names-index l.all) ≡ names_for l.all l.node
