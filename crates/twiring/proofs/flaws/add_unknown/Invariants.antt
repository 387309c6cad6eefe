use Rattle.std.proofs.Common.{◌≡◌, ◌++◌, map}
use Rattle.toml.specs.View.{table_view}
use Rattle.twiring.specs.Flaws.{unknown_flaws}
use Rattle.twiring.proofs.FlawLists.{unknown_of}
use Rattle.twiring.proofs.flaws.add_unknown.Given as goal

-- what was found, and what is left
abbrev pub invariant-loop-key : goal.invariant-loop-key
invariant-loop-key l =
    (goal.iterator-loop-key).can_next l.key-iterator × (goal.iterator-loop-key).is_finite l.key-iterator
    × (l.found.items ++ unknown_of l.part (map (λ name. name.now) l.names) l.key-iterator
    ≡ l.initial.found.items ++ unknown_flaws l.part (map (λ name. name.now) l.names) (table_view l.table))
