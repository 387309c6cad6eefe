use Rattle.tproc.proofs.Fetched.{fetched_saving}
use Rattle.tproc.proofs.Touching.{all_inside_saving, saved_inside}
use Rattle.tproc.proofs.claimed_memory.ClaimedMemory.deschedule.Goals as goal

pub invariant_of-self : goal.invariant_of-self
invariant_of-self c =
    record {
      size = c.args.self.now.size;
      inside = rw c.claim_saved_known.ensures
          (all_inside_saving _ _ c.args.self.now.marks c.args.self.now.inside
          (saved_inside _ _ c.args.self.now.marks c.args.self.now.size c.requires.free));
      fetched = rw c.claim_saved_known.ensures
          (fetched_saving c.args.workspace _ _ _ _ (rw c.below.ensures at c.forget.ensures) c.args.self.now.fetched);
    }
