use Rattle.std.proofs.Common.{drop}
use Rattle.tfiles.proofs.Told.{GoesOn}
use Rattle.tjson.proofs.NodeLines.{lines}
use Rattle.tjson.proofs.nodes.put_json_nodes.Given as goal

-- what was told and what is left
abbrev pub invariant-loop-number : goal.invariant-loop-number
invariant-loop-number g l =
    GoesOn g.W.Write.contents g.W.CountedWrite.failures l.initial.out l.out
    (lines l.number (drop l.number l.net.nodes)) (lines 0 l.net.nodes)
