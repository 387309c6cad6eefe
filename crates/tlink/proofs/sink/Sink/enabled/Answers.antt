use Rattle.std.proofs.Common.{◌≡◌, ◌∙◌, rules, length, Some}
use Rattle.tlink.specs.declared.counts.Arrival.{Arrival}
use Rattle.tlink.specs.declared.event.NodeEvent.TheVariants.{Data, Take}
use Rattle.tlink.proofs.Sources as source
use Rattle.tlink.proofs.Sinks as sink
use Rattle.tlink.proofs.sink.Sink.enabled.Goals as goal

pub returns-else-link-eq0 : goal.returns-else-link-eq0
returns-else-link-eq0 c =
    source.rests _ c.self.view_is (sink.alone _ _ _ _ _ (λ b last q. c.if-link-eq0.false (cc)) (λ q. cc))

pub returns-else-link-eq0-2 : goal.returns-else-link-eq0-2
returns-else-link-eq0-2 c =
    source.rests _ c.self.view_is (sink.alone _ _ _ _ _ (λ b last q. cc) (λ q. c.if-link-eq0-2.false (cc)))

pub returns-in_default : goal.returns-in_default
returns-in_default c =
    source.rests _ c.self.view_is
    (sink.alone _ _ _ _ _ (c.in_default.not-Data 0) (c.in_default.not-Take 0))

pub returns-then-is_none : goal.returns-then-is_none
returns-then-is_none c =
    rw (c.in-Take.is, c.if-link-eq0-2.true)
    (source.rests (Take 0) c.self.view_is (sink.take_none _ _ _ _ (sink.none_is _ c.if-is_none.ensures)))

pub returns-then-link-eq0 : goal.returns-then-link-eq0
returns-then-link-eq0 c =
    rw (c.in-Data.is, c.if-link-eq0.true)
    (source.tells (Data 0 _ _) c.self.view_is (sink.none_told _ _ c.is_none.ensures ∙ sink.data_told _ _ _ _ _ _))

pub returns-else-is_none : goal.returns-else-is_none
returns-else-is_none c =
    let a : (a : Arrival) × (c.self.inside.counts.arrived ≡ Some a) = sink.some_is _ c.if-is_none.ensures in
    let e : c.len.result ≡ length c.self.inside.bytes.items = search rules in
    rw (c.in-Take.is, c.if-link-eq0-2.true, e)
    (source.tells (Take 0) c.self.view_is (sink.take_told _ _ _ _ a.0 a.1 c.self.invariant.within))
