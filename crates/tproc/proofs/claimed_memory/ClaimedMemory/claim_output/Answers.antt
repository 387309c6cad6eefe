use Rattle.tproc.proofs.Fetched.{fetched_output}
use Rattle.tproc.proofs.claimed_memory.ClaimedMemory.claim_output.Goals as goal

pub invariant_of-self-clause-inside : goal.invariant_of-self-clause-inside
invariant_of-self-clause-inside c = rw c.claim_out_known.ensures c.args.self.now.inside

pub invariant_of-self-clause-fetched : goal.invariant_of-self-clause-fetched
invariant_of-self-clause-fetched c =
    rw c.claim_out_known.ensures
    (fetched_output c.args.link (record { start = c.args.buffer; size = c.args.size }) _ _ _ c.args.self.now.fetched)
