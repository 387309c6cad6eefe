use Rattle.tproc.proofs.Fetched.{fetched_without_output}
use Rattle.tproc.proofs.claimed_memory.ClaimedMemory.release_output.Goals as goal

pub invariant_of-self-clause-inside : goal.invariant_of-self-clause-inside
invariant_of-self-clause-inside c = rw c.release_out.ensures c.args.self.now.inside

pub invariant_of-self-clause-fetched : goal.invariant_of-self-clause-fetched
invariant_of-self-clause-fetched c =
    rw c.release_out.ensures (fetched_without_output c.args.link _ _ _ c.args.self.now.fetched)
