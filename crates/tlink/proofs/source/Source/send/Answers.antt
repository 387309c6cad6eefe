use Rattle.std.proofs.Common.{refl, rules}
use Rattle.tlink.specs.declared.event.NodeEvent.TheVariants.{Send}
use Rattle.tlink.proofs.Sources as source
use Rattle.tlink.proofs.source.Source.send.Goals as goal

pub returns-in_default : goal.returns-in_default
returns-in_default c = source.refuses (Send 0) c.self.view_is (source.send_over _ _ _ _ _ (cc))

pub returns-then-acked-sent : goal.returns-then-acked-sent
returns-then-acked-sent c =
    source.refuses (Send 0) c.self.view_is (source.send_early _ _ _ _ _ c.in-Some.length (cc) c.if-acked-sent.true)

pub returns-then-sent-length : goal.returns-then-sent-length
returns-then-sent-length c =
    source.refuses (Send 0) c.self.view_is
    (source.send_past _ _ _ _ _ c.in-Some.length (cc) c.if-acked-sent.false c.if-sent-length.true)

pub index-byte-requires : goal.index-byte-requires
index-byte-requires c =
    let h = source.first_within _ c.self.inside.lengths.items _ _ c.self.inside.counts c.in-Some.length (cc)
    c.self.invariant.within c.self.inside.counts.sent c.if-sent-length.false in search rules

pub returns : goal.returns
returns c =
    let h = source.first_within c.self.inside.bytes.items c.self.inside.lengths.items _ _ c.self.inside.counts
    c.in-Some.length (cc) c.self.invariant.within c.self.inside.counts.sent c.if-sent-length.false in
    source.does (Send 0) _ _ _ c.self.view_is
    (source.send_next _ _ _ _ _ c.in-Some.length (cc) c.self.invariant.within c.if-acked-sent.false
    c.if-sent-length.false)
    (rw (← source.byte_is c.self.inside.bytes.items _ c.index-byte.result.now h c.index-byte.ensures) refl) refl
