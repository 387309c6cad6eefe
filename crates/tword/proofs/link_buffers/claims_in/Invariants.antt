use Rattle.std.proofs.Common.{◌≡◌, ◌≤◌, take}
use Rattle.tword.specs.Slots.{claims_in}
use Rattle.tword.proofs.link_buffers.claims_in.Given as goal

abbrev pub invariant-loop-claim : goal.invariant-loop-claim
invariant-loop-claim l =
    record { sum : l.count ≡ claims_in l.word (take l.claim-index l.claimed); few : l.count ≤ l.claim-index }
