use Rattle.tproc.proofs.Fetched.{fetched_saving}
use Rattle.tproc.proofs.claimed_memory.ClaimedMemory.save.Goals as goal

pub invariant_of-self-clause-fetched : goal.invariant_of-self-clause-fetched
invariant_of-self-clause-fetched c =
    rw c.claim_saved_known.ensures
    (fetched_saving c.args.workspace _ _ _ _ (rw c.below-lowest.ensures at c.forget.ensures) c.args.self.now.fetched)
