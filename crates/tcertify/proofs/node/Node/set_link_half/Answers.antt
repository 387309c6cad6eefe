use Rattle.std.proofs.Common.{◌<◌, ◌∙◌, arith, length, refl, sym}
use Rattle.tprocesses.specs.Changes.{Put}
use Rattle.tplan.specs.Wires.{end_at}
use Rattle.tprocesses.specs.Places as place
use Rattle.tprocesses.specs.Values.{IsLink}
use Rattle.tcertify.specs.declared.notes.Mode.TheVariants.{Puts}
use Rattle.tcertify.specs.Channels.{link_of}
use Rattle.tcertify.specs.Nodes.{names}
use Rattle.tcertify.specs.Sides.{side_of}
use Rattle.tcertify.proofs.Growing.{lists_stay}
use Rattle.tcertify.proofs.NodeChanging.{changes_at}
use Rattle.tcertify.proofs.NodeChannels.{link_state}
use Rattle.tcertify.proofs.NodeHalves.{half_is_there, known_link, link_number}
use Rattle.tcertify.proofs.node.Node.set_link_half.Goals as goal

pub invariant_of-self : goal.invariant_of-self
invariant_of-self c =
    let a = c.args.self.now in let k = c.args.link in let side = c.args.side in
    let inside : k < length a.links.inputs = omega (arith, c.requires.there) in
    let other : k < length a.links.outputs = omega (arith, c.requires.there) in
    let (g, there) = half_is_there a.links k side inside other in
    record {
      placed = a.placed;
      known = known_link (length a.processes.items.items) a.channels.items.items a.links c.set_half.new.self k side g
          c.args.half a.known there c.set_half.ensures c.requires.known;
    }

pub returns-clause-sets : goal.returns-clause-sets
returns-clause-sets c =
    let a = c.args.self.now in let k = c.args.link in let side = c.args.side in let h = c.args.half in
    let inside : k < length a.links.inputs = omega (arith, c.requires.there) in
    let other : k < length a.links.outputs = omega (arith, c.requires.there) in
    let (g, there) = half_is_there a.links k side inside other in
    changes_at a _ (place.LinkHalf (end_at a.words.number k) (side_of side)) c.link_place-place.result Puts
    (lists_stay a _ refl refl refl refl refl refl) c.add.ensures.keeps c.add.ensures.tells
    (λ numbering n. link_number _ k side c.requires.there numbering n ∙ sym c.link_place-place.ensures)
    (Put (IsLink (link_of (names a) h))) refl
    (λ rest. link_state a c.set_half.new.self k side g h there c.set_half.ensures rest) refl
