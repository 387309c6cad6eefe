use Rattle.std.proofs.Common.{length, refl, subst, sym}
use Rattle.std.proofs.lemmas.Option.{slice_get_read}
use Rattle.std.specs.Vec.{with_item}
use Rattle.tplan.specs.Wires.{end_at}
use Rattle.tprocesses.specs.LinkMessages.{node_receives}
use Rattle.tprocesses.specs.Parts.{Doing}
use Rattle.tcertify.specs.Nodes.{node_site, nothing}
use Rattle.tverdict.specs.declared.machine.Machine.{Machine}
use Rattle.tverdict.specs.Passing.{DoesHalf}
use Rattle.tverdict.proofs.Half.{does_half, receives_are}
use Rattle.tverdict.proofs.machine.Machine.node_receives.Goals as goal

pub returns : goal.returns
returns c = λ plan notes fits.
    let m = c.args.self.now in let to = c.args.to in let old = c.index_mut.result.now in
    let new = c.receives.new.self in
    let there = slice_get_read m.nodes.items (length m.nodes.items) to.node old refl c.requires
    c.index_mut.ensures.value in
    let now : Machine = record m { nodes = with_item m.nodes to.node new } in
    subst (λ (p : Doing). DoesHalf plan p nothing to.node m notes c.receives.result now notes)
    (sym (receives_are plan m fits to old there c.args.message.now))
    (does_half plan m now to.node notes fits old new there refl
    (node_receives c.args.message.now (end_at old.words.number to.link) (node_site old)) nothing c.receives.result
    c.receives.ensures refl)
