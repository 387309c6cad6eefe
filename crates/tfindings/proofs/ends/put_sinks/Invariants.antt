use Rattle.std.proofs.Common.{drop, ◌+◌}
use Rattle.tfiles.proofs.Told.{GoesOn}
use Rattle.tfindings.specs.Ends.{each_from, kept_sink}
use Rattle.tfindings.proofs.ends.put_sinks.Given as goal

-- what was told and what is left
abbrev pub invariant-loop-number : goal.invariant-loop-number
invariant-loop-number g l =
    GoesOn g.W.Write.contents g.W.CountedWrite.failures l.initial.out l.out
    (each_from kept_sink (l.first + l.number) (drop l.number l.sinks)) (each_from kept_sink l.first l.sinks)
