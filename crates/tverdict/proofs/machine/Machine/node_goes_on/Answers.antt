use Rattle.std.proofs.Common.{◌≡◌, ℕ, length, refl, subst, sym}
use Rattle.std.proofs.lemmas.Option.{slice_get_read, slice_get_within}
use Rattle.std.specs.Vec.{with_item}
use Rattle.tprocesses.specs.Choosing.{goes_on_unfired}
use Rattle.tprocesses.specs.Machine.{site_of}
use Rattle.tprocesses.specs.Places.{Name}
use Rattle.tprocesses.specs.Touching.{Site}
use Rattle.tcertify.specs.Contexts.{context_of}
use Rattle.tcertify.specs.Nodes.{name_at, node_site, nothing}
use Rattle.tverdict.specs.declared.machine.Machine.{Machine}
use Rattle.tverdict.specs.Passing.{DoesHalf}
use Rattle.tverdict.proofs.Half.{does_half, name_there_is}
use Rattle.tverdict.proofs.machine.Machine.node_goes_on.Goals as goal

pub returns : goal.returns
returns c = λ plan notes planned fits is.
    let m = c.args.self.now in let n = c.args.node in let k = c.args.process in let old = c.index_mut.result.now in
    let new = c.goes_on_unfired.new.self in let (x, at, low) = c.requires in let channel : ℕ = c.args.channel in
    let context = context_of c.args.context.now in let result = c.goes_on_unfired.result in
    let there = slice_get_read m.nodes.items (length m.nodes.items) n old refl
    (slice_get_within m.nodes.items n x at) c.index_mut.ensures.value in
    let now : Machine = record m { nodes = with_item m.nodes n new } in
    let site : node_site old ≡ site_of n planned = fits.nodes.sites n old planned there is in
    subst (λ (y : Name). DoesHalf plan (goes_on_unfired (site_of n planned) y channel context) nothing n m notes result
    now notes) (sym (name_there_is m.nodes.items n old k there))
    (subst (λ (s : Site). DoesHalf plan (goes_on_unfired s (name_at old k) channel context) nothing n m notes result now
    notes) site
    (does_half plan m now n notes fits old new there refl
    (goes_on_unfired (node_site old) (name_at old k) channel context) nothing result c.goes_on_unfired.ensures refl))
