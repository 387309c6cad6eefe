use Rattle.std.proofs.Common.{◌≡◌, replicate}
use Rattle.tnet.specs.Net.{empty_inbox}
use Rattle.tnet.proofs.opening.empty_inboxes.Given as goal

abbrev pub invariant-loop-node : goal.invariant-loop-node
invariant-loop-node l = l.inboxes.items ≡ replicate l._node (replicate 4 empty_inbox)
