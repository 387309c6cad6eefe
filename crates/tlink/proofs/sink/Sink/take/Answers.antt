use Rattle.std.proofs.Common.{◌+◌, ◌<◌, refl, arith, rules, length}
use Rattle.std.proofs.lemmas.Bool.{not-true, not-false}
use Rattle.tlink.specs.declared.event.NodeEvent.TheVariants.{Take}
use Rattle.tlink.proofs.Sources as source
use Rattle.tlink.proofs.Sinks as sink
use Rattle.tlink.proofs.sink.Sink.take.Goals as goal

pub returns-in_default : goal.returns-in_default
returns-in_default c = source.refuses (Take 0) c.self.view_is (sink.take_none _ _ _ _ c.in_default.is)

pub returns-then-place-len : goal.returns-then-place-len
returns-then-place-len c =
    source.refuses (Take 0) c.self.view_is (sink.take_full _ _ _ _ c.in-Some.arrival c.in-Some.is (search rules))

pub returns-then-not-arrival : goal.returns-then-not-arrival
returns-then-not-arrival c =
    source.does (Take 0) _ _ _ c.self.view_is
    (sink.take_byte _ _ _ _ c.in-Some.arrival c.in-Some.is (search rules) (not-true _ c.if-not-arrival.true))
    refl refl

pub returns : goal.returns
returns c =
    let more : c.self.inside.kept + c.self.inside.counts.got < length c.self.inside.bytes.items = search rules in
    let few : c.self.inside.messages < length c.self.inside.lengths.items =
    omega (arith, c.self.invariant.each, c.self.invariant.room, more) in
    source.does (Take 0) _ _ _ c.self.view_is
    (sink.take_last _ _ _ _ c.in-Some.arrival c.in-Some.is more (not-false _ c.if-not-arrival.false)) refl
    (rw (sink.length_kept c.self.inside.lengths.items c.self.inside.messages (c.self.inside.counts.got + 1) few) refl)
