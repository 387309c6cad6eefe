use Rattle.std.proofs.Common.{◌≡◌, ◌++◌, drop}
use Rattle.tcheck.specs.Wrongs.{each_from, source_wrongs}
use Rattle.tcheck.proofs.plans.add_sources_wrongs.Given as goal

-- what was found, and what is left
abbrev pub invariant-loop-number : goal.invariant-loop-number
invariant-loop-number l =
    l.found.items ++ each_from (source_wrongs l.nodes) l.number (drop l.number l.sources)
    ≡ l.initial.found.items ++ each_from (source_wrongs l.nodes) 0 l.sources
