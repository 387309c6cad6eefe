use Rattle.std.proofs.Common.{drop}
use Rattle.tfiles.specs.Texts.{dump_from}
use Rattle.tfiles.proofs.Told.{GoesOn}
use Rattle.tendings.proofs.telling.put_dump.Given as goal

-- what was told and what is left
abbrev pub invariant-loop-number : goal.invariant-loop-number
invariant-loop-number g l =
    GoesOn g.W.Write.contents g.W.CountedWrite.failures l.initial.out l.out
    (dump_from l.number (drop l.number l.state.nodes)) (dump_from 0 l.state.nodes)
