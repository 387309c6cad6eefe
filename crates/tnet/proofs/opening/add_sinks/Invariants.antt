use Rattle.std.proofs.Common.{◌≡◌, ◌++◌, map, take}
use Rattle.tlink.specs.Node.{fresh_sink}
use Rattle.tnet.proofs.opening.add_sinks.Given as goal

-- the sinks so far stand behind the nodes
abbrev pub invariant-loop-sink : goal.invariant-loop-sink
invariant-loop-sink l =
    l.nodes.items ≡ l.initial.nodes.items ++ map (λ s. fresh_sink s.capacity) (take l.sink-index l.sinks)
