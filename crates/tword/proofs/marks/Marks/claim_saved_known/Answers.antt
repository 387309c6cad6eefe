use Rattle.std.proofs.Common.{◌<◌, length, ap, arith}
use Rattle.tword.specs.Claims.{Claims}
use Rattle.tword.specs.Limits.{most_processes}
use Rattle.tword.proofs.ClaimTally.{counts_have_room, tally_push}
use Rattle.tword.proofs.marks.Marks.claim_saved_known.Goals as goal

pub raise-requires : goal.raise-requires
raise-requires c = record { room = counts_have_room _ _ _ _ c.self.invariant }

pub invariant_of-self : goal.invariant_of-self
invariant_of-self c =
    let few : length c.self.inside.saved < most_processes =
    omega (arith, ap (λ (x : Claims). length x.saved) c.self.view_is, c.requires.room) in
    rw c.insert.ensures
    (tally_push _ _ _ _ _ c.args.workspace c.self.invariant few (rw c.saved_words.ensures at c.raise.ensures))
