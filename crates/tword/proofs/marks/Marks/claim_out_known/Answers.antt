use Rattle.std.proofs.Common.{Some, arith}
use Rattle.tword.proofs.ClaimTally.{counts_have_room, enough_output, tally_output}
use Rattle.tword.proofs.marks.Marks.claim_out_known.Goals as goal

pub exchange-requires-clause-room : goal.exchange-requires-clause-room
exchange-requires-clause-room c = counts_have_room _ _ _ _ c.self.invariant

pub exchange-requires-clause-some : goal.exchange-requires-clause-some
exchange-requires-clause-some c =
    enough_output _ _ _ _ c.args.link _ c.self.invariant (omega arith) c.claim-before.ensures.before

pub invariant_of-self : goal.invariant_of-self
invariant_of-self c =
    rw c.claim-before.ensures.claimed
    (tally_output _ _ _ _ _ c.args.link c.claim-before.result
    (Some (record { start = c.args.start; size = c.args.size })) c.self.invariant (omega arith)
    c.claim-before.ensures.before c.exchange.ensures)
