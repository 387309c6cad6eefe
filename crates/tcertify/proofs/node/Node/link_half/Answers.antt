use Rattle.std.proofs.Common.{◌∙◌, inl, refl, sym}
use Rattle.tplan.specs.Wires.{end_at}
use Rattle.tprocesses.specs.Places as place
use Rattle.tprocesses.specs.Values.{IsLink}
use Rattle.tcertify.specs.declared.lead.Lead.TheVariants.{Link}
use Rattle.tcertify.specs.declared.notes.Mode.TheVariants.{Looks}
use Rattle.tcertify.specs.Channels.{link_of}
use Rattle.tcertify.specs.Nodes.{names}
use Rattle.tcertify.specs.Sides.{side_of}
use Rattle.tcertify.proofs.Growing.{lists_stay}
use Rattle.tcertify.proofs.NodeChanging.{looks_and_leads, looks_at}
use Rattle.tcertify.proofs.NodeChannels.{link_seen}
use Rattle.tcertify.proofs.NodeHalves.{link_leads, link_number}
use Rattle.tcertify.proofs.node.Node.link_half.Goals as goal

pub returns-then-not-is_due-clause-looks : goal.returns-then-not-is_due-clause-looks
returns-then-not-is_due-clause-looks c =
    let a = c.args.self.now in let k = c.args.link in let side = c.args.side in let h = c.half-half.result in
    looks_and_leads a _ c.note_lead.new.self (place.LinkHalf (end_at a.words.number k) (side_of side))
    c.link_place-place.result Looks (Link k side) c.note_lead.ensures (IsLink (link_of (names a) h))
    (lists_stay a _ refl refl refl refl refl refl) (λ rest. refl) refl c.add.ensures.keeps c.add.ensures.tells
    (λ numbering n. link_number _ k side c.requires numbering n ∙ sym c.link_place-place.ensures) refl
    (λ rest. link_seen a k side h c.half-half.ensures rest)
    (link_leads _ c.note_lead.new.self k side (link_of (names a) h) c.note_lead.ensures
    (sym (c.is_due.ensures (names a)) ∙ c.if-not-is_due.true))

pub returns-else-not-is_due-clause-looks : goal.returns-else-not-is_due-clause-looks
returns-else-not-is_due-clause-looks c =
    let a = c.args.self.now in let k = c.args.link in let side = c.args.side in let h = c.half-half.result in
    looks_at a _ (place.LinkHalf (end_at a.words.number k) (side_of side)) c.link_place-place.result Looks
    (lists_stay a _ refl refl refl refl refl refl) c.add.ensures.keeps c.add.ensures.tells
    (λ numbering n. link_number _ k side c.requires numbering n ∙ sym c.link_place-place.ensures)
    (IsLink (link_of (names a) h)) refl (λ rest. refl) (λ rest. link_seen a k side h c.half-half.ensures rest)
    (λ l old. inl old)
