use Rattle.std.proofs.Common.{drop, ◌+◌}
use Rattle.tfiles.proofs.Told.{GoesOn}
use Rattle.tfindings.specs.Ends.{sent_from}
use Rattle.tfindings.proofs.ends.put_sources.Given as goal

-- what was told and what is left
abbrev pub invariant-loop-number : goal.invariant-loop-number
invariant-loop-number g l =
    GoesOn g.W.Write.contents g.W.CountedWrite.failures l.initial.out l.out
    (sent_from (l.first + l.number) (drop l.number l.sources) (drop l.number l.sent))
    (sent_from l.first l.sources l.sent)
