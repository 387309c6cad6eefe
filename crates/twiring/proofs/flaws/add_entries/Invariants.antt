use Rattle.std.proofs.Common.{◌≡◌, ◌++◌, drop}
use Rattle.toml.specs.View.{items_view}
use Rattle.twiring.specs.Flaws.{items_flaws}
use Rattle.twiring.proofs.flaws.add_entries.Given as goal

-- what was found, and what is left
abbrev pub invariant-loop-number : goal.invariant-loop-number
invariant-loop-number l =
    l.found.items ++ items_flaws l.first l.entry l.number (items_view (drop l.number l.array))
    ≡ l.initial.found.items ++ items_flaws l.first l.entry 0 (items_view l.array)
