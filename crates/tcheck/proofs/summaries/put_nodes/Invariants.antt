use Rattle.std.proofs.Common.{drop}
use Rattle.tfiles.proofs.Told.{GoesOn}
use Rattle.tcheck.specs.Summaries.{texts_from, node_text}
use Rattle.tcheck.proofs.summaries.put_nodes.Given as goal

-- what was told and what is left
abbrev pub invariant-loop-number : goal.invariant-loop-number
invariant-loop-number g l =
    GoesOn g.W.Write.contents g.W.CountedWrite.failures l.initial.out l.out
    (texts_from (node_text l.named l.wires) l.number (drop l.number l.nodes))
    (texts_from (node_text l.named l.wires) 0 l.nodes)
