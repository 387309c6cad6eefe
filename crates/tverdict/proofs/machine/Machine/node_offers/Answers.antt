use Rattle.std.proofs.Common.{Bool, Ok, length, refl, subst, sym}
use Rattle.std.proofs.lemmas.Option.{slice_get_read}
use Rattle.std.specs.Vec.{with_item}
use Rattle.tplan.specs.Wires.{end_at}
use Rattle.tprocesses.specs.Parts.{Part}
use Rattle.tcertify.specs.Choosing.{offers_at}
use Rattle.tverdict.specs.declared.machine.Machine.{Machine}
use Rattle.tverdict.specs.Passing.{DoesHalf}
use Rattle.tverdict.proofs.Half.{does_half, offers_are}
use Rattle.tverdict.proofs.machine.Machine.node_offers.Goals as goal

pub returns : goal.returns
returns c = λ plan notes fits.
    let m = c.args.self.now in let from = c.args.from in let old = c.index_mut.result.now in
    let new = c.is_offering.new.self in let offered = c.is_offering.result in
    let there = slice_get_read m.nodes.items (length m.nodes.items) from.node old refl c.requires
    c.index_mut.ensures.value in
    let now : Machine = record m { nodes = with_item m.nodes from.node new } in
    subst (λ (p : Part Bool). DoesHalf plan p (λ x. x) from.node m notes (Ok offered) now notes)
    (sym (offers_are plan m fits from old there))
    (does_half plan m now from.node notes fits old new there refl (offers_at (end_at old.words.number from.link))
    (λ x. x) (Ok offered) c.is_offering.ensures refl)
