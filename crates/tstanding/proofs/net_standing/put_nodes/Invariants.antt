use Rattle.std.proofs.Common.{drop}
use Rattle.tfiles.proofs.Told.{GoesOn}
use Rattle.twhere.specs.Standing.{texts_from}
use Rattle.tstanding.specs.NetStanding.{named_node}
use Rattle.tstanding.proofs.net_standing.put_nodes.Given as goal

-- what was told and what is left
abbrev pub invariant-loop-number : goal.invariant-loop-number
invariant-loop-number g l =
    GoesOn g.W.Write.contents g.W.CountedWrite.failures l.initial.out l.out
    (texts_from (named_node l.names l.net) l.number (drop l.number l.net.nodes))
    (texts_from (named_node l.names l.net) 0 l.net.nodes)
