use Rattle.std.proofs.Common.{◌≡◌, ◌++◌, ◌≤◌, drop, length, map, string_bytes}
use Rattle.twords.specs.CommandLines.{with_events_joined}
use Rattle.twords.proofs.joined_words.with_events_joined.Given as goal

-- with the words that are left, joined, these are all words, joined; and each turn leaves fewer
abbrev pub invariant-loop : goal.invariant-loop
invariant-loop l =
    (map string_bytes l.joined.items ++ with_events_joined (drop l.place (map (λ w. w.now) l.words))
    ≡ with_events_joined (map (λ w. w.now) l.words))
    × (l.counter ≤ l.place) × (l.place ≤ length l.words)
