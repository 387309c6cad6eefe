use Rattle.std.proofs.Common.{Ok, length, refl, subst, sym}
use Rattle.std.proofs.lemmas.Option.{slice_get_read, slice_get_within}
use Rattle.std.specs.Vec.{with_item}
use Rattle.tprocesses.specs.Parts.{see}
use Rattle.tprocesses.specs.Places.{Name, Standing}
use Rattle.tprocesses.specs.Values.{IsStand, Value}
use Rattle.tcertify.specs.Nodes.{name_at}
use Rattle.tcertify.specs.Standing.{stand_of}
use Rattle.tverdict.specs.declared.machine.Machine.{Machine}
use Rattle.tverdict.specs.Passing.{RunsHalf}
use Rattle.tverdict.proofs.Half.{does_half, name_there_is}
use Rattle.tverdict.proofs.machine.Machine.node_stand.Goals as goal

pub returns : goal.returns
returns c = λ plan notes fits.
    let m = c.args.self.now in let n = c.args.node in let k = c.args.process in let old = c.index_mut.result.now in
    let new = c.stand.new.self in let (x, at, low) = c.requires in
    let there = slice_get_read m.nodes.items (length m.nodes.items) n old refl
    (slice_get_within m.nodes.items n x at) c.index_mut.ensures.value in
    let now : Machine = record m { nodes = with_item m.nodes n new } in
    let seen : Value = IsStand (stand_of c.stand.result) in
    subst (λ (y : Name). RunsHalf plan (see (Standing y)) n m notes (Ok seen) now notes)
    (sym (name_there_is m.nodes.items n old k there))
    (does_half plan m now n notes fits old new there refl (see (Standing (name_at old k))) (λ (v : Value). v) (Ok seen)
    c.stand.ensures refl)
