use Rattle.std.proofs.Common.{refl, length}
use Rattle.std.specs.Int.{w32, to_le_bytes}
use Rattle.tword.specs.Stores.{as_cells}
use Rattle.tproc.proofs.Fetched.{fetched_beside_slot}
use Rattle.tproc.proofs.Touching.{saved_word_inside}
use Rattle.tproc.proofs.claimed_memory.ClaimedMemory.set_saved_word.Goals as goal

pub invariant_of-self-inside-clause-fetched : goal.invariant_of-self-inside-clause-fetched
invariant_of-self-inside-clause-fetched c =
    fetched_beside_slot c.args.workspace c.args.k (as_cells (to_le_bytes w32 c.args.value)) _ _ _ _
    (rw (← c.self.view_is) at c.args.self.now.size) c.requires.slot
    (rw (← c.self.view_is) at (c.args.self.now.inside c.args.workspace c.requires.saved))
    (rw (← c.self.view_is) at c.requires.saved) (rw c.below.ensures at c.set_word.ensures.set) refl
    (rw (← c.self.view_is) at
    (saved_word_inside (length c.args.self.now.memory.bytes) c.args.workspace c.args.k c.args.self.now.size
    c.requires.slot (c.args.self.now.inside c.args.workspace c.requires.saved))) c.set_word.ensures.sized
    (rw (← c.self.view_is) at c.args.self.now.fetched)
