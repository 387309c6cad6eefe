use Rattle.std.proofs.Common.{take}
use Rattle.std.specs.List.{AllZip}
use Rattle.toutcomes.specs.Standings.{IsStanding}
use Rattle.toutcomes.proofs.standings.standings_of.Given as goal

-- where the net stands at the outcomes before this one is told
abbrev pub invariant-loop-number : goal.invariant-loop-number
invariant-loop-number l = AllZip (IsStanding l.logged.net) (take l.number l.logged.explored.outcomes) l.all.items
