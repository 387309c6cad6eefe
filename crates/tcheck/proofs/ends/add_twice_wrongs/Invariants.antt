use Rattle.std.proofs.Common.{◌≡◌, ◌++◌, drop, take}
use Rattle.tcheck.specs.Wrongs.{each_from, first_sharing, shared_wrongs, twice_wrongs}
use Rattle.tcheck.proofs.ends.add_twice_wrongs.Given as goal

-- what was found, and what is left
abbrev pub invariant-loop-number : goal.invariant-loop-number
invariant-loop-number l =
    l.found.items
    ++ each_from (λ k w. shared_wrongs l.wires l.sources k (first_sharing w 0 (take k l.all))) l.number
    (drop l.number l.all)
    ≡ l.initial.found.items ++ twice_wrongs l.wires l.sources l.all
