use Rattle.std.proofs.Common.{refl, arith}
use Rattle.tlink.specs.declared.event.NodeEvent.TheVariants.{Ack}
use Rattle.tlink.proofs.Sources as source
use Rattle.tlink.proofs.source.Source.ack.Goals as goal

pub returns-in_default : goal.returns-in_default
returns-in_default c = source.refuses (Ack 0) c.self.view_is (source.ack_over _ _ _ _ _ (cc))

pub returns-then-sent-acked : goal.returns-then-sent-acked
returns-then-sent-acked c =
    source.refuses (Ack 0) c.self.view_is (source.ack_none _ _ _ _ _ c.in-Some.length (cc) (omega arith))

pub returns-then-sent-acked-ne1 : goal.returns-then-sent-acked-ne1
returns-then-sent-acked-ne1 c =
    source.refuses (Ack 0) c.self.view_is (source.ack_none _ _ _ _ _ c.in-Some.length (cc) (omega arith))

pub returns-then-sent-length : goal.returns-then-sent-length
returns-then-sent-length c =
    source.does (Ack 0) _ _ _ c.self.view_is
    (source.ack_byte _ _ _ _ _ c.in-Some.length (cc) (omega arith) c.if-sent-length.true) refl refl

pub invariant_of-self-2 : goal.invariant_of-self-2
invariant_of-self-2 c = source.next_within _ _ _ _ c.self.inside.counts c.in-Some.length (cc) c.self.invariant

pub returns : goal.returns
returns c =
    source.does (Ack 0) _ _ _ c.self.view_is
    (source.ack_last _ _ _ _ _ c.in-Some.length (cc) (omega arith) c.if-sent-length.false) refl refl
