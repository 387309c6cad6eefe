use Rattle.std.proofs.Common.{Ok, [], take}
use Rattle.toml.specs.View.{items_view}
use Rattle.twiring.specs.Wirings.{IsWiringAnswer}
use Rattle.twiring.specs.WiringParts.{table_in, more_in}
use Rattle.twiring.proofs.wiring.tables.Given as goal

-- what was found is what the tables so far stand for
abbrev pub invariant-loop-value : goal.invariant-loop-value
invariant-loop-value g l =
    IsWiringAnswer (more_in (table_in (g.T.Section.told l.first)) (Ok []) (items_view (take l.value-index l.array)))
    l.found
