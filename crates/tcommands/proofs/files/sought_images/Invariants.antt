use Rattle.std.proofs.Common.{◌≡◌, length}
use Rattle.tcommands.proofs.files.sought_images.Given as goal

-- each node so far has its file
abbrev pub invariant-loop-node : goal.invariant-loop-node
invariant-loop-node l = length l.files.items ≡ l.node-index
