use Rattle.std.proofs.Common.{length, refl, subst, sym}
use Rattle.std.proofs.lemmas.Option.{slice_get_read}
use Rattle.std.specs.Vec.{with_item}
use Rattle.tword.specs.Stores.{Store}
use Rattle.tplan.specs.Wires.{end_at}
use Rattle.tprocesses.specs.LinkMessages.{node_sends}
use Rattle.tprocesses.specs.Parts.{Part}
use Rattle.tcertify.specs.Nodes.{node_site}
use Rattle.tverdict.specs.declared.machine.Machine.{Machine}
use Rattle.tverdict.specs.Passing.{DoesHalf}
use Rattle.tverdict.proofs.Half.{does_half, sends_are}
use Rattle.tverdict.proofs.machine.Machine.node_sends.Goals as goal

pub returns : goal.returns
returns c = λ plan notes fits.
    let m = c.args.self.now in let from = c.args.from in let old = c.index_mut.result.now in
    let new = c.sends.new.self in
    let there = slice_get_read m.nodes.items (length m.nodes.items) from.node old refl c.requires
    c.index_mut.ensures.value in
    let now : Machine = record m { nodes = with_item m.nodes from.node new } in
    subst (λ (p : Part Store). DoesHalf plan p (λ x. x.items) from.node m notes c.sends.result now notes)
    (sym (sends_are plan m fits from old there))
    (does_half plan m now from.node notes fits old new there refl
    (node_sends (end_at old.words.number from.link) (node_site old)) (λ x. x.items) c.sends.result c.sends.ensures refl)
