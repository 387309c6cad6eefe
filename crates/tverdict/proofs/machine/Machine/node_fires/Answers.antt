use Rattle.std.proofs.Common.{Ok, Err, length, refl, subst, sym}
use Rattle.std.proofs.lemmas.Option.{slice_get_read, slice_get_within}
use Rattle.std.proofs.lemmas.Result.{err_from_is_err_and}
use Rattle.std.specs.Vec.{with_item}
use Rattle.tplan.specs.Wires.{end_at}
use Rattle.tprocesses.specs.Choosing.{fires}
use Rattle.tprocesses.specs.Parts.{Doing}
use Rattle.tprocesses.specs.Places.{Name}
use Rattle.tcertify.specs.declared.fault.Fault.TheVariants as fault
use Rattle.tcertify.specs.Nodes.{name_at, nothing}
use Rattle.tverdict.specs.declared.machine.Machine.{Machine}
use Rattle.tverdict.specs.Passing.{DoesHalf}
use Rattle.tverdict.proofs.Half.{does_half, fires_are, name_there_is}
use Rattle.tverdict.proofs.machine.Machine.node_fires.Goals as goal

pub returns-in_err-fires : goal.returns-in_err-fires
returns-in_err-fires c = λ plan notes fits.
    let m = c.args.self.now in let to = c.args.to in let k = c.args.process in let old = c.index_mut.result.now in
    let new = c.fires.new.self in let (x, at, low) = c.requires in
    let there = slice_get_read m.nodes.items (length m.nodes.items) to.node old refl
    (slice_get_within m.nodes.items to.node x at) c.index_mut.ensures.value in
    let now : Machine = record m { nodes = with_item m.nodes to.node new } in
    let why = Err (fault.Stops c.in_err-fires.field-0.0) in
    let p = err_from_is_err_and c.from_residual.result c.from_residual.ensures.1 in
    rw (p.1, p.2)
    (subst (λ (y : Name). DoesHalf plan (fires to y) nothing to.node m notes why now notes)
    (sym (name_there_is m.nodes.items to.node old k there))
    (subst (λ (q : Doing). DoesHalf plan q nothing to.node m notes why now notes)
    (sym (fires_are plan m fits to old there (name_at old k)))
    (does_half plan m now to.node notes fits old new there refl
    (fires (end_at old.words.number to.link) (name_at old k)) nothing why c.in_err-fires.ensures refl)))

pub returns : goal.returns
returns c = λ plan notes fits.
    let m = c.args.self.now in let to = c.args.to in let k = c.args.process in let old = c.index_mut.result.now in
    let new = c.fires.new.self in let (x, at, low) = c.requires in
    let there = slice_get_read m.nodes.items (length m.nodes.items) to.node old refl
    (slice_get_within m.nodes.items to.node x at) c.index_mut.ensures.value in
    let now : Machine = record m { nodes = with_item m.nodes to.node new } in
    subst (λ (y : Name). DoesHalf plan (fires to y) nothing to.node m notes (Ok tt) now notes)
    (sym (name_there_is m.nodes.items to.node old k there))
    (subst (λ (q : Doing). DoesHalf plan q nothing to.node m notes (Ok tt) now notes)
    (sym (fires_are plan m fits to old there (name_at old k)))
    (does_half plan m now to.node notes fits old new there refl
    (fires (end_at old.words.number to.link) (name_at old k)) nothing (Ok tt) c.in_ok-fires.ensures refl))
