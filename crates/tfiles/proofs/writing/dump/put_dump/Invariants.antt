use Rattle.std.proofs.Common.{drop}
use Rattle.tfiles.proofs.NetDumps.{dumps}
use Rattle.tfiles.proofs.Told.{GoesOn}
use Rattle.tfiles.proofs.writing.dump.put_dump.Given as goal

-- what was told and what is left
abbrev pub invariant-loop-number : goal.invariant-loop-number
invariant-loop-number g l =
    GoesOn g.W.Write.contents g.W.CountedWrite.failures l.initial.out l.out
    (dumps l.number (drop l.number l.net.nodes)) (dumps 0 l.net.nodes)
