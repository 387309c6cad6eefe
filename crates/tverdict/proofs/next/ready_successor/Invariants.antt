use Rattle.std.proofs.Common.{All, take}
use Rattle.tverdict.specs.Next.{AwaitNothing}
use Rattle.tverdict.proofs.next.ready_successor.Given as goal

abbrev pub invariant-loop-node : goal.invariant-loop-node
invariant-loop-node l = All AwaitNothing (take l.node-index l.nodes)
