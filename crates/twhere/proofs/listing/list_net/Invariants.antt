use Rattle.std.proofs.Common.{◌≡◌, take}
use Rattle.std.specs.Prelude.{map}
use Rattle.twhere.specs.Standing.{listed_of}
use Rattle.twhere.proofs.listing.list_net.Given as goal

-- the nodes so far
abbrev pub invariant-loop-node : goal.invariant-loop-node
invariant-loop-node l = l.all.items ≡ map (λ n. listed_of n.machine.control) (take l.node-index l.net.nodes)
