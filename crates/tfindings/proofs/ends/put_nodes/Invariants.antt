use Rattle.std.proofs.Common.{drop}
use Rattle.tfiles.proofs.Told.{GoesOn}
use Rattle.tfindings.specs.Ends.{each_from, kept_node}
use Rattle.tfindings.proofs.ends.put_nodes.Given as goal

-- what was told and what is left
abbrev pub invariant-loop-number : goal.invariant-loop-number
invariant-loop-number g l =
    GoesOn g.W.Write.contents g.W.CountedWrite.failures l.initial.out l.out
    (each_from kept_node l.number (drop l.number l.nodes)) (each_from kept_node 0 l.nodes)
