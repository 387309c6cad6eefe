use Rattle.std.proofs.Common.{refl, [], ◌∷◌}
use Rattle.tword.specs.Stores.{as_cells}
use Rattle.tproc.proofs.Fetched.{fetched_beside_input}
use Rattle.tproc.proofs.claimed_memory.ClaimedMemory.set_input_byte.Goals as goal

pub invariant_of-self-inside-clause-fetched : goal.invariant_of-self-inside-clause-fetched
invariant_of-self-inside-clause-fetched c =
    fetched_beside_input c.args.address (as_cells (c.args.byte ∷ [])) _ _ _ _
    (rw (← c.self.view_is) at c.requires.input) c.set_byte.ensures.set refl
    (rw (← c.self.view_is) at c.requires.inside) c.set_byte.ensures.sized
    (rw (← c.self.view_is) at c.args.self.now.fetched)
