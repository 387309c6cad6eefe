use Rattle.std.proofs.Common.{take}
use Rattle.tword.specs.Bounds.{AreWithin}
use Rattle.tword.proofs.link_buffers.bounds_of_all.Given as goal

abbrev pub invariant-loop-claim : goal.invariant-loop-claim
invariant-loop-claim l = AreWithin l.bounds.0 l.bounds.1 (take l.claim-index l.claimed)
