use Rattle.std.proofs.Common.{◌≡◌, ◌++◌, All, map, take}
use Rattle.tlink.specs.Node.{fresh_source}
use Rattle.tnet.specs.Building.{AreBytes}
use Rattle.tnet.proofs.opening.add_sources.Given as goal

-- the sources so far stand behind the nodes
abbrev pub invariant-loop-source : goal.invariant-loop-source
invariant-loop-source l =
    (l.nodes.items ≡ l.initial.nodes.items ++ map (λ s. fresh_source s.messages) (take l.source-index l.sources))
    × All (λ s. All AreBytes s.messages) (take l.source-index l.sources)
