use Rattle.std.proofs.Common.{◌≡◌, map}
use Rattle.std.specs.List.{list_any}
use Rattle.toml.specs.View.{table_view}
use Rattle.twiring.specs.Wirings.{has_unknown}
use Rattle.twiring.proofs.WiringAnswers.{is_unknown}
use Rattle.twiring.proofs.wiring.known_keys.Given as goal

-- the keys that are left have an unknown one exactly where all keys have
abbrev pub invariant-loop-key : goal.invariant-loop-key
invariant-loop-key l =
    (goal.iterator-loop-key).can_next l.key-iterator × (goal.iterator-loop-key).is_finite l.key-iterator
    × (has_unknown (map (λ name. name.now) l.names) (table_view l.table)
    ≡ list_any (is_unknown (map (λ name. name.now) l.names)) l.key-iterator)
