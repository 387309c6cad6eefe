use Rattle.std.proofs.Common.{arith}
use Rattle.tlink.specs.declared.event.NodeEvent.TheVariants.{Ack}
use Rattle.tlink.proofs.Sources as source
use Rattle.tlink.proofs.source.Source.can_ack.Goals as goal

pub returns-in_default : goal.returns-in_default
returns-in_default c = source.rests (Ack 0) c.self.view_is (source.ack_over _ _ _ _ _ (cc))

pub returns-then-sent-acked : goal.returns-then-sent-acked
returns-then-sent-acked c =
    source.rests (Ack 0) c.self.view_is (source.ack_none _ _ _ _ _ c.in-Some.field-0 (cc) (omega arith))

pub returns : goal.returns
returns c =
    source.tells (Ack 0) c.self.view_is (source.ack_told _ _ _ _ _ c.in-Some.field-0 (cc) c.if-sent-acked.false)
