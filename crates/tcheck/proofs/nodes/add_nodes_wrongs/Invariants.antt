use Rattle.std.proofs.Common.{◌≡◌, ◌++◌, drop}
use Rattle.tcheck.specs.Wrongs.{each_from, node_wrongs}
use Rattle.tcheck.proofs.nodes.add_nodes_wrongs.Given as goal

-- what was found, and what is left
abbrev pub invariant-loop-number : goal.invariant-loop-number
invariant-loop-number l =
    l.found.items ++ each_from (node_wrongs l.timeslice) l.number (drop l.number l.nodes)
    ≡ l.initial.found.items ++ each_from (node_wrongs l.timeslice) 0 l.nodes
