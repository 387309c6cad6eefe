-- Halves of channels and links that are looked at and set.
use Rattle.std.proofs.Common.{◌≡◌, ◌<◌, ℕ, zero, suc, refl, sym, ap, ◌∙◌, subst, Bool, false, List, [], ◌∷◌, ◌++◌}
use Rattle.std.proofs.Common.{Some}
use Rattle.std.proofs.Common.{arith, get_or, length, ◌⊎◌, inl, inr}
use Rattle.std.specs.Prelude.{Contains, option_map, slice_get, slice_set}
use Rattle.std.proofs.lemmas.Bool.{cases_eq}
use Rattle.std.proofs.lemmas.Option.{slice_get-get_or, slice_get-map, same_Some}
use Rattle.tagents.specs.Walks.{Sight}
use Rattle.tplan.specs.Wires.{end_at}
use Rattle.tprocesses.specs.Machine.{is_due_at, is_met_at}
use Rattle.tprocesses.specs.Places as place
use Rattle.tprocesses.specs.Places.{Name, Place}
use Rattle.tprocesses.specs.Values.{IsHalf, IsLink, Value, half_in, link_in}
use Rattle.tprocesses.specs.Values as value
use Rattle.tcertify.specs.declared.channel.Channel.{Channel}
use Rattle.tcertify.specs.declared.channel.LinkHalf.{LinkHalf}
use Rattle.tcertify.specs.declared.channel.LinkHalf.TheVariants as half
use Rattle.tcertify.specs.declared.channel.Links.{Links}
use Rattle.tcertify.specs.declared.channel.Holder.{Holder}
use Rattle.tcertify.specs.declared.lead.Lead.{Lead}
use Rattle.tcertify.specs.declared.lead.Lead.TheVariants as lead
use Rattle.tcertify.specs.declared.node.Node.{Node}
use Rattle.tcertify.specs.declared.side.Side.{Side}
use Rattle.tcertify.specs.declared.side.Side.TheVariants.{Input, Output}
use Rattle.tcertify.specs.Channels.{AreKnown, IsKnownHalf, IsKnownHolder, IsLinkSet, IsUnfinishedSet, address_of}
use Rattle.tcertify.specs.Channels.{free_channel, half_of, halves_of, with_holder}
use Rattle.tcertify.specs.Nodes.{HasLead, IsLed, NumbersNode, address_at, addresses, link_place}
use Rattle.tcertify.specs.Notes.{Numbering}
use Rattle.tcertify.specs.Sides.{side_of}
use Rattle.tcertify.proofs.NodeChannels.{address_is}
use Rattle.tcertify.proofs.Places.{set_elsewhere, set_here}

-- the number of the place of a half of a channel
pub half_number_in : (a : Node) (k : ℕ) (c : Channel) (side : Side) → slice_get a.channels.items.items k ≡ Some c
    → (numbering : Numbering) → NumbersNode numbering a
    → numbering (place.Half a.words.number c.address (side_of side)) ≡ (half_of side c).place
half_number_in a k c Input there numbering n = n.input k c there
half_number_in a k c Output there numbering n = n.output k c there

pub half_number : (a : Node) (k : ℕ) (c : Channel) (side : Side) → slice_get a.channels.items.items k ≡ Some c
    → (numbering : Numbering) → NumbersNode numbering a
    → numbering (place.Half a.words.number (address_at a k) (side_of side)) ≡ (half_of side c).place
half_number a k c side there numbering n =
    ap (λ (w : ℕ). numbering (place.Half a.words.number w (side_of side))) (address_is a k c there)
    ∙ half_number_in a k c side there numbering n

-- and of a half of a link
pub link_number : (a : Node) (k : ℕ) (side : Side) → k < 4 → (numbering : Numbering) → NumbersNode numbering a
    → numbering (place.LinkHalf (end_at a.words.number k) (side_of side)) ≡ link_place a k side
link_number a k Input low numbering n = n.link_input k low
link_number a k Output low numbering n = n.link_output k low

-- the number of a node at which a lead is told
number_told : (m b : Node) (l : Lead) → HasLead m l b → m.words.number ≡ b.words.number
number_told m b l told = ap (λ (n : Node). n.words.number) (sym told.same)

-- a half that was seen shut to its channel
pub half_leads : (m b : Node) (k : ℕ) (c : Channel) (side : Side) (o : value.Holder)
    → HasLead m (lead.Channel k) b → slice_get m.channels.items.items k ≡ Some c
    → is_met_at (place.Half b.words.number (address_at m k) (side_of side)) o ≡ false
    → IsLed b (record { place = place.Half m.words.number (address_at m k) (side_of side); value = IsHalf o } ∷ []) []
    (lead.Channel k)
half_leads m b k c side o told there shut = (
  address_at m k,
  ap (λ (n : Node). slice_get (addresses n) k) told.same
      ∙ slice_get-map address_of m.channels.items.items k ∙ ap (option_map address_of) there
      ∙ ap Some (sym (address_is m k c there)),
  (
    side_of side,
    record {
      value = IsHalf o;
      there = subst (λ (n : ℕ). Contains {X = Sight Place Value} (record {
        place = place.Half m.words.number (address_at m k) (side_of side);
        value = IsHalf o;
      } ∷ []) (record { place = place.Half n (address_at m k) (side_of side); value = IsHalf o }))
          (number_told m b (lead.Channel k) told) (0, omega arith, refl);
      shut = shut;
    },
  ),
)

-- a half of a link at which a wire was seen not to go on
pub link_leads : (m b : Node) (k : ℕ) (side : Side) (l : value.Link) → HasLead m (lead.Link k side) b
    → is_due_at (side_of side) l ≡ false
    → IsLed b (record { place = place.LinkHalf (end_at m.words.number k) (side_of side); value = IsLink l } ∷ []) []
    (lead.Link k side)
link_leads m b k side l told shut =
    record {
      value = IsLink l;
      there = subst (λ (n : ℕ). Contains {X = Sight Place Value} (record {
        place = place.LinkHalf (end_at m.words.number k) (side_of side);
        value = IsLink l;
      } ∷ []) (record { place = place.LinkHalf (end_at n k) (side_of side); value = IsLink l }))
          (number_told m b (lead.Link k side) told) (0, omega arith, refl);
      shut = shut;
    }

-- a half that is set keeps that
asked : (side t : Side) (h : Holder) (c : Channel) (n : ℕ) → IsKnownHolder n h
    → ((u : Side) → IsKnownHolder n (half_of u c).holder) → IsKnownHolder n (half_of t (with_holder side h c)).holder
asked Input Input h c n new old = new
asked Input Output h c n new old = old Output
asked Output Input h c n new old = old Input
asked Output Output h c n new old = new

pub known_set : (n : ℕ) (cs ds : List Channel) (l : Links) (k : ℕ) (c : Channel) (side : Side) (h : Holder)
    → AreKnown n cs l → slice_get cs k ≡ Some c → ds ≡ slice_set cs k (with_holder side h c) → IsKnownHolder n h
    → AreKnown n ds l
known_set n cs ds l k c side h known there set new =
    record {
      at_channels = λ i d t at. by i d t at (cases_eq k i);
      at_links = known.at_links;
    }
  where
    by : (i : ℕ) (d : Channel) (t : Side) → slice_get ds i ≡ Some d → (k ≡ i) ⊎ (k ≡ i → ⊥)
        → IsKnownHolder n (half_of t d).holder
    by i d t at (inl same) =
        let is : with_holder side h c ≡ d =
        same_Some (with_holder side h c) d (sym (set_here cs k (with_holder side h c) c there)
        ∙ ap (λ (es : List Channel). slice_get es k) (sym set) ∙ ap (slice_get ds) same ∙ at) in
        subst (λ (x : Channel). IsKnownHolder n (half_of t x).holder) is
        (asked side t h c n new (λ u. known.at_channels k c u there))
    by i d t at (inr ne) =
        known.at_channels i d t
        (sym (set_elsewhere cs k i (with_holder side h c) ne)
        ∙ ap (λ (es : List Channel). slice_get es i) (sym set) ∙ at)

-- a channel that is added keeps it
free_or_before : (n : ℕ) (xs : List Channel) (c : Channel) → ((t : Side) → IsKnownHolder n (half_of t c).holder)
    → ((i : ℕ) (d : Channel) (t : Side) → slice_get xs i ≡ Some d → IsKnownHolder n (half_of t d).holder)
    → (i : ℕ) (d : Channel) (t : Side) → slice_get (xs ++ c ∷ []) i ≡ Some d → IsKnownHolder n (half_of t d).holder
free_or_before n [] c free h zero d t at =
    subst (λ (x : Channel). IsKnownHolder n (half_of t x).holder) (same_Some c d at) (free t)
free_or_before n [] c free h (suc i) d t at = cc
free_or_before n (x ∷ xs) c free h zero d t at = h 0 d t at
free_or_before n (x ∷ xs) c free h (suc i) d t at =
    free_or_before n xs c free (λ j e u there. h (suc j) e u there) i d t at

free_sides : (n address input output : ℕ) (t : Side)
    → IsKnownHolder n (half_of t (free_channel address input output)).holder
free_sides n address input output Input = λ k e. cc
free_sides n address input output Output = λ k e. cc

pub known_pushed : (n : ℕ) (cs ds : List Channel) (l : Links) (address input output : ℕ) → AreKnown n cs l
    → ds ≡ cs ++ free_channel address input output ∷ [] → AreKnown n ds l
known_pushed n cs ds l address input output known e =
    record {
      at_channels = λ i d t at.
          free_or_before n cs (free_channel address input output) (free_sides n address input output)
          known.at_channels i d t (ap (λ (es : List Channel). slice_get es i) (sym e) ∙ at);
      at_links = known.at_links;
    }

pub known_same : (n : ℕ) (cs ds : List Channel) (l : Links) → ds ≡ cs → AreKnown n cs l → AreKnown n ds l
known_same n cs ds l e known = subst (λ (es : List Channel). AreKnown n es l) (sym e) known

-- a half of a link that is set keeps it
pub known_link : (n : ℕ) (cs : List Channel) (l m : Links) (k : ℕ) (side : Side) (g h : LinkHalf) → AreKnown n cs l
    → slice_get (halves_of side l) k ≡ Some g → IsLinkSet l k side h m → IsKnownHalf n h → AreKnown n cs m
known_link n cs l m k side g h known there set new =
    record {
      at_channels = known.at_channels;
      at_links = λ j t q at. asks side t j q there set at;
    }
  where
    in_list : (t : Side) (xs ys : List LinkHalf) → halves_of t l ≡ xs → slice_get xs k ≡ Some g
        → ys ≡ slice_set xs k h → (j : ℕ) (q : LinkHalf) → slice_get ys j ≡ Some q → IsKnownHalf n q
    in_list t xs ys is here put j q at = by (cases_eq k j)
      where
        by : (k ≡ j) ⊎ (k ≡ j → ⊥) → IsKnownHalf n q
        by (inl e) =
            let same : h ≡ q = same_Some h q (sym (set_here xs k h g here)
            ∙ ap (λ (zs : List LinkHalf). slice_get zs k) (sym put) ∙ ap (slice_get ys) e ∙ at) in
            subst (λ (x : LinkHalf). IsKnownHalf n x) same new
        by (inr ne) =
            known.at_links j t q
            (ap (λ (zs : List LinkHalf). slice_get zs j) is ∙ sym (set_elsewhere xs k j h ne)
            ∙ ap (λ (zs : List LinkHalf). slice_get zs j) (sym put) ∙ at)

    -- the halves of a side behind it
    list_of : (t : Side) (o : Links) → m ≡ o → halves_of t m ≡ halves_of t o
    list_of t o e = ap (halves_of t) e

    asks : (s t : Side) (j : ℕ) (q : LinkHalf) → slice_get (halves_of s l) k ≡ Some g → IsLinkSet l k s h m
        → slice_get (halves_of t m) j ≡ Some q → IsKnownHalf n q
    asks Input Input j q here put at = in_list Input l.inputs m.inputs refl here (list_of Input _ put) j q at
    asks Input Output j q here put at =
        known.at_links j Output q (ap (λ (zs : List LinkHalf). slice_get zs j) (sym (list_of Output _ put)) ∙ at)
    asks Output Input j q here put at =
        known.at_links j Input q (ap (λ (zs : List LinkHalf). slice_get zs j) (sym (list_of Input _ put)) ∙ at)
    asks Output Output j q here put at = in_list Output l.outputs m.outputs refl here (list_of Output _ put) j q at

-- where the output of one is over, or has gone over, all halves stay
pub known_finished : (n : ℕ) (cs : List Channel) (l m : Links) (k : ℕ) (u : Bool) → AreKnown n cs l
    → IsUnfinishedSet l k u m → AreKnown n cs m
known_finished n cs l m k u known set =
    subst (λ (o : Links). AreKnown n cs o) (sym set)
    (record { at_channels = known.at_channels; at_links = λ j t q at. known.at_links j t q (stays j t q at) })
  where
    stays : (j : ℕ) (t : Side) (q : LinkHalf)
        → slice_get (halves_of t (record l { unfinished = slice_set l.unfinished k u })) j ≡ Some q
        → slice_get (halves_of t l) j ≡ Some q
    stays j Input q at = at
    stays j Output q at = at

-- a half of a link that the node has
pub half_is_there : (l : Links) (k : ℕ) (side : Side) → k < length l.inputs → k < length l.outputs
    → (h : LinkHalf) × (slice_get (halves_of side l) k ≡ Some h)
half_is_there l k Input inside other = (get_or l.inputs k half.Empty, slice_get-get_or l.inputs k half.Empty inside)
half_is_there l k Output other inside = (get_or l.outputs k half.Empty, slice_get-get_or l.outputs k half.Empty inside)
