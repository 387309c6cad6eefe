use Rattle.tproc.proofs.Fetched.{fetched_input}
use Rattle.tproc.proofs.claimed_memory.ClaimedMemory.claim_input.Goals as goal

pub invariant_of-self-clause-inside : goal.invariant_of-self-clause-inside
invariant_of-self-clause-inside c = rw c.claim_in_known.ensures c.args.self.now.inside

pub invariant_of-self-clause-fetched : goal.invariant_of-self-clause-fetched
invariant_of-self-clause-fetched c =
    rw c.claim_in_known.ensures
    (fetched_input c.args.link (record { start = c.args.buffer; size = c.args.size }) _ _ _ _ c.forget.ensures
    c.args.self.now.fetched)
