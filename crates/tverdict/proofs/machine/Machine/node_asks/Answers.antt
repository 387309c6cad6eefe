use Rattle.std.proofs.Common.{◌≡◌, ℕ, length, refl, subst, sym, None, Ok, Option, Some}
use Rattle.std.specs.Prelude.{IfSome, option_map}
use Rattle.std.proofs.lemmas.Option.{slice_get_read}
use Rattle.std.specs.Vec.{with_item}
use Rattle.tplan.specs.Wires.{end_at}
use Rattle.tprocesses.specs.Machine.{Processor, asks}
use Rattle.tprocesses.specs.Parts.{Part}
use Rattle.tprocesses.specs.Places.{Name}
use Rattle.tcertify.specs.Nodes.{RunsAt}
use Rattle.tverdict.specs.declared.machine.Machine.{Machine}
use Rattle.tverdict.specs.Agents.{HasProcess, name_there}
use Rattle.tverdict.specs.Passing.{DoesHalf}
use Rattle.tverdict.proofs.Half.{asks_are, does_half, names_there_are}
use Rattle.tverdict.proofs.machine.Machine.node_asks.Goals as goal

pub returns-clause-asks : goal.returns-clause-asks
returns-clause-asks c = λ plan notes fits.
    let m = c.args.self.now in let to = c.args.to in let old = c.index_mut.result.now in
    let new = c.awaiting.new.self in let asked = c.awaiting.result in
    let there = slice_get_read m.nodes.items (length m.nodes.items) to.node old refl c.requires
    c.index_mut.ensures.value in
    let now : Machine = record m { nodes = with_item m.nodes to.node new } in
    let part = asks Processor (end_at old.words.number to.link) in
    let names = option_map (name_there m.nodes.items to.node) in
    subst (λ (p : Part (Option Name)). DoesHalf plan p names to.node m notes (Ok asked) now notes)
    (sym (asks_are plan m fits to old there))
    (does_half plan m now to.node notes fits old new there refl part names (Ok asked)
    (subst (λ (o : Option Name). RunsAt part old (Ok o) new)
    (sym (names_there_are m.nodes.items to.node old asked there))
    c.awaiting.ensures.asks) refl)

pub returns-clause-there : goal.returns-clause-there
returns-clause-there c = by c.awaiting.result refl
  where
    by : (asked : Option ℕ) → c.awaiting.result ≡ asked
        → IfSome asked (λ k. HasProcess c.args.self.now.nodes.items c.args.to.node k)
    by None is = tt
    by (Some k) is = (
      c.index_mut.result.now,
      slice_get_read c.args.self.now.nodes.items (length c.args.self.now.nodes.items) c.args.to.node
          c.index_mut.result.now refl c.requires c.index_mut.ensures.value,
      c.awaiting.ensures.there k is,
    )
