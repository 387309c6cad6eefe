use Rattle.std.proofs.Common.{refl}
use Rattle.std.specs.Int.{w32, to_le_bytes}
use Rattle.tword.specs.Stores.{as_cells}
use Rattle.tproc.proofs.Fetched.{fetched_cells}
use Rattle.tproc.proofs.Touching.{word_inside}
use Rattle.tproc.proofs.claimed_memory.ClaimedMemory.set_word.Goals as goal

pub invariant_of-self-inside-clause-fetched : goal.invariant_of-self-inside-clause-fetched
invariant_of-self-inside-clause-fetched c =
    fetched_cells c.args.address 4 (as_cells (to_le_bytes w32 c.args.value)) _ _ _ _ _ c.set_word.ensures.set refl
    (word_inside _ _ _ (rw (← c.self.view_is) at c.requires)) c.set_word.ensures.sized c.forget.ensures
    (rw (← c.self.view_is) at c.args.self.now.fetched)
