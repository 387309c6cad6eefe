use Rattle.tproc.proofs.Fetched.{fetched_freed}
use Rattle.tproc.proofs.claimed_memory.ClaimedMemory.free.Goals as goal

pub invariant_of-self-clause-fetched : goal.invariant_of-self-clause-fetched
invariant_of-self-clause-fetched c =
    fetched_freed c.args.workspace _ _ _ _ c.release_saved.ensures.frees c.release_saved.ensures.inputs
    c.args.self.now.fetched
