use Rattle.std.proofs.Common.{ℕ, refl, sym, ap, ◌∙◌, subst, length, inl}
use Rattle.std.proofs.lemmas.Option.{slice_get_read}
use Rattle.tprocesses.specs.Places as place
use Rattle.tprocesses.specs.Values.{IsHalf}
use Rattle.tcertify.specs.declared.channel.Half.{Half}
use Rattle.tcertify.specs.declared.lead.Lead.TheVariants.{Channel}
use Rattle.tcertify.specs.declared.notes.Mode.TheVariants.{Looks}
use Rattle.tcertify.specs.Channels.{IsKnownHolder, holder_of}
use Rattle.tcertify.specs.Nodes.{address_at, names, node_at}
use Rattle.tcertify.specs.Sides.{side_of}
use Rattle.tcertify.proofs.Growing.{lists_stay}
use Rattle.tcertify.proofs.NodeChanging.{looks_and_leads, looks_at}
use Rattle.tcertify.proofs.NodeChannels.{address_is, half_seen}
use Rattle.tcertify.proofs.NodeHalves.{half_leads, half_number}
use Rattle.tcertify.proofs.node.Node.half.Goals as goal

pub returns-then-not-is_met-clause-looks : goal.returns-then-not-is_met-clause-looks
returns-then-not-is_met-clause-looks c =
    let a = c.args.self.now in let k = c.args.channel in let side = c.args.side in
    let cs = a.channels.items.items in let d = c.index.result.now in let h = c.half-half.result in
    let there = slice_get_read cs (length cs) k d refl c.requires c.index.ensures in
    looks_and_leads a _ c.note_lead.new.self (place.Half a.words.number (address_at a k) (side_of side)) h.place Looks
    (Channel k) c.note_lead.ensures (IsHalf (holder_of (names a) h.holder))
    (lists_stay a _ refl refl refl refl refl refl) (λ rest. refl) refl c.add.ensures.keeps c.add.ensures.tells
    (λ numbering n. half_number _ k d side there numbering n ∙ ap (λ (x : Half). x.place) (sym c.half-half.ensures))
    refl
    (λ rest. ap (λ (w : ℕ). node_at a rest (place.Half a.words.number w (side_of side))) (address_is a k d there)
    ∙ half_seen a k d side there rest
    ∙ ap (λ (x : Half). IsHalf (holder_of (names a) x.holder)) (sym c.half-half.ensures))
    (half_leads _ c.note_lead.new.self k d side (holder_of (names a) h.holder) c.note_lead.ensures there
    (sym (c.is_met.ensures a.words.number (address_at a k) (names a)) ∙ c.if-not-is_met.true))

pub returns-else-not-is_met-clause-looks : goal.returns-else-not-is_met-clause-looks
returns-else-not-is_met-clause-looks c =
    let a = c.args.self.now in let k = c.args.channel in let side = c.args.side in
    let cs = a.channels.items.items in let d = c.index.result.now in let h = c.half-half.result in
    let there = slice_get_read cs (length cs) k d refl c.requires c.index.ensures in
    looks_at a _ (place.Half a.words.number (address_at a k) (side_of side)) h.place Looks
    (lists_stay a _ refl refl refl refl refl refl) c.add.ensures.keeps c.add.ensures.tells
    (λ numbering n. half_number _ k d side there numbering n ∙ ap (λ (x : Half). x.place) (sym c.half-half.ensures))
    (IsHalf (holder_of (names a) h.holder)) refl (λ rest. refl)
    (λ rest. ap (λ (w : ℕ). node_at a rest (place.Half a.words.number w (side_of side))) (address_is a k d there)
    ∙ half_seen a k d side there rest
    ∙ ap (λ (x : Half). IsHalf (holder_of (names a) x.holder)) (sym c.half-half.ensures)) (λ l old. inl old)

pub returns-else-not-is_met-clause-known : goal.returns-else-not-is_met-clause-known
returns-else-not-is_met-clause-known c =
    let a = c.args.self.now in let k = c.args.channel in let cs = a.channels.items.items in
    let d = c.index.result.now in
    let there = slice_get_read cs (length cs) k d refl c.requires c.index.ensures in
    subst (λ (x : Half). IsKnownHolder (length a.processes.items.items) x.holder) (sym c.half-half.ensures)
    (a.known.at_channels k d c.args.side there)
