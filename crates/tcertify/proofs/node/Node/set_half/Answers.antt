use Rattle.std.proofs.Common.{ℕ, refl, sym, ap, ◌∙◌, subst, length, List}
use Rattle.tprocesses.specs.Changes.{Put}
use Rattle.tprocesses.specs.Places as place
use Rattle.tprocesses.specs.Values.{IsHalf}
use Rattle.tcertify.specs.declared.channel.Channel.{Channel}
use Rattle.tcertify.specs.declared.notes.Mode.TheVariants.{Puts}
use Rattle.tcertify.specs.Channels.{holder_of, with_holder}
use Rattle.tcertify.specs.Nodes.{address_at, names, node_at}
use Rattle.tcertify.specs.Running.{changed}
use Rattle.tcertify.specs.Sides.{side_of}
use Rattle.tcertify.proofs.Growing.{process_key, channel_key, life_key}
use Rattle.tcertify.proofs.Keeping.{IsKept, kept_all, kept_set}
use Rattle.tcertify.proofs.NodeChanging.{changes_at}
use Rattle.tcertify.proofs.NodeChannels.{address_is, channel_now, half_state, same_address, same_half_place}
use Rattle.tcertify.proofs.NodeChannels.{same_places}
use Rattle.tcertify.proofs.NodeHalves.{half_number_in, known_set}
use Rattle.tcertify.proofs.node.Node.set_half.Goals as goal

pub invariant_of-self : goal.invariant_of-self
invariant_of-self c =
    let a = c.args.self.now in let e = c.set_half-place.ensures in (
      (a.words.sized, (a.words.numbered, tt)),
      (
        a.placed,
        (
          known_set (length a.processes.items.items) a.channels.items.items c.set_half-place.new.self.items.items
              a.links
              c.args.channel e.channel c.args.side c.args.holder a.known e.there e.set c.requires.known,
          tt,
        ),
      ),
    )

pub returns-clause-sets : goal.returns-clause-sets
returns-clause-sets c =
    let a = c.args.self.now in let e = c.set_half-place.ensures in let k = c.args.channel in
    let side = c.args.side in let r = c.args.holder in let d = e.channel in
    let cs = a.channels.items.items in let ds = c.set_half-place.new.self.items.items in
    let now = channel_now a ds k d side r e.there e.set c.set_half-place.new.self.apart in
    changes_at a _ (place.Half a.words.number (address_at a k) (side_of side)) c.set_half-place.result Puts
    (record {
      site = refl;
      first = refl;
      fixed = refl;
      processes = kept_all process_key a.processes.items.items;
      channels = subst (λ (es : List Channel). IsKept channel_key cs es) (sym e.set)
          (kept_set channel_key cs k d (with_holder side r d) e.there (same_places side r d));
      lives = kept_all life_key a.lives.items.items;
    })
    c.add.ensures.keeps c.add.ensures.tells
    (λ numbering n. ap (λ (w : ℕ). numbering (place.Half a.words.number w (side_of side)))
    (address_is a k d e.there ∙ sym (same_address side r d))
    ∙ half_number_in _ k (with_holder side r d) side now numbering n ∙ same_half_place side side r d ∙ e.place)
    (Put (IsHalf (holder_of (names a) r))) refl
    (λ rest. half_state a ds k d side r e.there e.set c.set_half-place.new.self.apart rest
    ∙ ap (λ (w : ℕ). changed (place.Half a.words.number w (side_of side)) (Put (IsHalf (holder_of (names a) r)))
    (node_at a rest)) (sym (address_is a k d e.there))) refl
