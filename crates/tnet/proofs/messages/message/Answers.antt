use Rattle.std.proofs.Common.{◌∙◌, sym, ap, ◌++◌, ◌∷◌, [], List, ℕ, arith, get_or}
use Rattle.tnet.proofs.MessageBytes.{more_taken, message_bytes}
use Rattle.tnet.proofs.messages.message.Goals as goal

pub loop-at-preserved : goal.loop-at-preserved
loop-at-preserved c = record {
  items =
      c.push_reserved.ensures.items
      ∙ (ap (λ (xs : List ℕ). xs ++ get_or c.bytes-all.result.now c.loop-at.at 0 ∷ []) c.loop-at.invariant.items
      ∙ sym (more_taken c.bytes-all.result.now c.saturating_sub-first.result c.loop-at.at 0 c.loop-at.auto.at
      (omega arith)));
  room = c.push_reserved.ensures.capacity ∙ c.loop-at.invariant.room;
}

pub returns : goal.returns
returns c =
    c.new.ensures
    ∙ (c.loop-at.invariant.items
    ∙ message_bytes c.bytes-all.result.now _ c.args.offer.buffer c.args.offer.length c.saturating_sub-first.result
    c.loop-at.at c.bytes-all.ensures (omega arith) c.loop-at.auto.at
    (omega arith) (omega arith))
