use Rattle.std.proofs.Common.{◌≡◌, ◌<◌, ◌+◌, ◌-◌, ℕ, refl, ap, subst, arith, length, List, Some}
use Rattle.std.specs.Prelude.{slice_get, slice_set}
use Rattle.std.specs.Vec.{with_item}
use Rattle.std.proofs.lemmas.Option.{slice_get_read}
use Rattle.tplan.specs.declared.plan.NodePlan.{NodePlan}
use Rattle.tplan.specs.declared.plan.SourcePlan.{SourcePlan}
use Rattle.tverdict.specs.declared.machine.Machine.{Machine}
use Rattle.tverdict.proofs.Scripted.{sink_half, sink_lies}
use Rattle.tverdict.proofs.machine.Machine.sink_receives.Goals as goal

pub returns : goal.returns
returns c =
    let plan = c.args.plan.now in let m = c.args.self.now in let e = c.args.end in let fits = c.requires.fits in
    let n = length c.as_slice.result.now in let s = length c.as_slice-2.result.now in
    let k = e.node - (length plan.nodes + length plan.sources) in
    let nodes : n ≡ length plan.nodes = ap (λ (xs : List NodePlan). length xs) c.as_slice.ensures in
    let sources : s ≡ length plan.sources = ap (λ (xs : List SourcePlan). length xs) c.as_slice-2.ensures in
    let lies = sink_lies plan e.node c.requires.role in
    let at : e.node - n - s ≡ k = omega (arith, nodes, sources) in
    let low : e.node - n - s < length m.sinks.items = omega (arith, nodes, sources, lies.0, lies.1, fits.sinks) in
    let sink = c.index_mut.result.now in let now = c.receives.new.self in
    let had = slice_get_read m.sinks.items (length m.sinks.items) (e.node - n - s) sink refl low
    c.index_mut.ensures.value in
    let new : Machine = record m { sinks = with_item m.sinks (e.node - n - s) now } in
    sink_half plan m fits e c.requires.role c.if-end-ne0.false sink now new.sinks.items
    (subst (λ (j : ℕ). slice_get m.sinks.items j ≡ Some sink) at had)
    (ap (λ (j : ℕ). slice_set m.sinks.items j now) at) c.receives.ensures.place new refl refl c.args.notes.now
    c.receives.new.notes c.args.message.items c.receives.result (c.receives.ensures.kept e)
