use Rattle.std.proofs.Common.{◌<◌, ◌∙◌, arith, length, refl, sym}
use Rattle.tplan.specs.Wires.{end_at}
use Rattle.tprocesses.specs.Changes.{Put}
use Rattle.tprocesses.specs.Places.{Unfinished}
use Rattle.tprocesses.specs.Values.{IsFlag}
use Rattle.tcertify.specs.declared.notes.Mode.TheVariants.{Puts}
use Rattle.tcertify.proofs.Growing.{lists_stay}
use Rattle.tcertify.proofs.NodeChanging.{changes_at}
use Rattle.tcertify.proofs.NodeHalves.{known_finished}
use Rattle.tcertify.proofs.NodeOutputs.{flag_is_there, unfinished_state}
use Rattle.tcertify.proofs.node.Node.set_unfinished.Goals as goal

pub invariant_of-self : goal.invariant_of-self
invariant_of-self c =
    let a = c.args.self.now in
    record {
      placed = a.placed;
      known = known_finished (length a.processes.items.items) a.channels.items.items a.links c.set_unfinished.new.self
          c.args.link c.args.unfinished a.known c.set_unfinished.ensures;
    }

pub returns : goal.returns
returns c =
    let a = c.args.self.now in let k = c.args.link in
    let inside : k < length a.links.unfinished = omega (arith, c.requires) in
    let (u, there) = flag_is_there a.links k inside in
    changes_at a _ (Unfinished (end_at a.words.number k)) c.unfinished_place-place.result Puts
    (lists_stay a _ refl refl refl refl refl refl) c.add.ensures.keeps c.add.ensures.tells
    (λ numbering n. n.unfinished k c.requires ∙ sym c.unfinished_place-place.ensures)
    (Put (IsFlag c.args.unfinished)) refl
    (λ rest. unfinished_state a c.set_unfinished.new.self k u c.args.unfinished there c.set_unfinished.ensures rest)
    refl
