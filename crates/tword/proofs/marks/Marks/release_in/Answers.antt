use Rattle.std.proofs.Common.{None, arith}
use Rattle.tword.proofs.ClaimTally.{counts_have_room, enough_input, tally_input}
use Rattle.tword.proofs.marks.Marks.release_in.Goals as goal

pub exchange-requires-clause-room : goal.exchange-requires-clause-room
exchange-requires-clause-room c = counts_have_room _ _ _ _ c.self.invariant

pub exchange-requires-clause-some : goal.exchange-requires-clause-some
exchange-requires-clause-some c =
    enough_input _ _ _ _ c.args.link _ c.self.invariant (omega arith) c.release-before.ensures.before

pub invariant_of-self : goal.invariant_of-self
invariant_of-self c =
    rw c.release-before.ensures.claimed
    (tally_input _ _ _ _ _ c.args.link c.release-before.result (None) c.self.invariant (omega arith)
    c.release-before.ensures.before c.exchange.ensures)
