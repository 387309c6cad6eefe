use Rattle.std.proofs.Common.{◌≡◌, ◌++◌, drop}
use Rattle.tcheck.specs.Wrongs.{each_from, segment_wrongs}
use Rattle.tcheck.proofs.nodes.add_segments_wrongs.Given as goal

-- what was found, and what is left
abbrev pub invariant-loop-number : goal.invariant-loop-number
invariant-loop-number l =
    l.found.items ++ each_from (segment_wrongs l.memory l.node) l.number (drop l.number l.segments)
    ≡ l.initial.found.items ++ each_from (segment_wrongs l.memory l.node) 0 l.segments
