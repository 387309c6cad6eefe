use Rattle.std.proofs.Common.{◌+◌, drop}
use Rattle.tfiles.proofs.Told.{GoesOn}
use Rattle.toutcomes.specs.Standings.{standings_from}
use Rattle.toutcomes.proofs.standings.put_standings.Given as goal

-- what was told and what is left
abbrev pub invariant-loop-place : goal.invariant-loop-place
invariant-loop-place g l =
    GoesOn g.W.Write.contents g.W.CountedWrite.failures l.initial.out l.out
    (standings_from (l.place + 1) (drop l.place l.outcomes) (drop l.place l.standings))
    (standings_from 1 l.outcomes l.standings)
