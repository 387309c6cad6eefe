use Rattle.std.proofs.Common.{refl}
use Rattle.tword.proofs.Standing.{cells-length}
use Rattle.tproc.proofs.Fetched.{fetched_cells}
use Rattle.tproc.proofs.Touching.{target_inside}
use Rattle.tproc.proofs.claimed_memory.ClaimedMemory.copy.Goals as goal

pub invariant_of-self-inside-clause-fetched : goal.invariant_of-self-inside-clause-fetched
invariant_of-self-inside-clause-fetched c =
    fetched_cells c.args.to c.args.count _ _ _ _ _ _ c.copy.ensures.copied
    (cells-length _ _ c.args.from c.args.count _ refl (rw (← c.self.view_is) at c.requires.reads))
    (target_inside _ _ c.args.to c.args.count (rw (← c.self.view_is) at c.requires.writes)) c.copy.ensures.sized
    c.forget.ensures (rw (← c.self.view_is) at c.args.self.now.fetched)
