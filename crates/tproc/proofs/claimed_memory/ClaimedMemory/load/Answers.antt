use Rattle.std.proofs.Common.{Some, length}
use Rattle.std.proofs.lemmas.List.{length-map}
use Rattle.tword.specs.Stores.{as_cells}
use Rattle.tproc.proofs.Fetched.{fetched_cells}
use Rattle.tproc.proofs.claimed_memory.ClaimedMemory.load.Goals as goal

pub invariant_of-self-inside-clause-fetched : goal.invariant_of-self-inside-clause-fetched
invariant_of-self-inside-clause-fetched c =
    fetched_cells c.args.start (length c.args.bytes.now) (as_cells c.args.bytes.now) _ _ _ _ _ c.load.ensures.loaded
    (length-map c.args.bytes.now Some) (rw (← c.self.view_is) at c.requires) c.load.ensures.sized c.forget.ensures
    (rw (← c.self.view_is) at c.args.self.now.fetched)
