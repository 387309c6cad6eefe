-- What an event of a node does to the ends of the rings of its worker.
use Rattle.std.proofs.Common.{◌≡◌, ◌≢◌, ℕ, ◌+◌, ◌<◌, refl, sym, ap, ◌∙◌, arith, List, [], ◌∷◌, ◌++◌, length, false, Ok}
use Rattle.std.proofs.Common.{Err, Option, Some, None, ◌⊎◌, inl, inr}
use Rattle.std.specs.Prelude.{IsSome, is_some, slice_index_or, option_map}
use Rattle.std.proofs.lemmas.Bool.{cases_eq, and_left, and_right, ne_eqb}
use Rattle.std.proofs.lemmas.List.{append-nil}
use Rattle.tlink.specs.declared.event.Packet.{Packet}
use Rattle.tlink.specs.declared.event.Packet.TheVariants as packet
use Rattle.tlink.specs.declared.event.NodeEvent.{NodeEvent}
use Rattle.tlink.specs.declared.event.NodeEvent.TheVariants.{Run, Send, Data, Take, Ack}
use Rattle.tlink.specs.Events.{Answer}
use Rattle.tplan.specs.declared.plan.End.{End}
use Rattle.tplan.specs.Wires.{end_at, same_end, far_end}
use Rattle.tnet.specs.Net.{NetState}
use Rattle.tplan.proofs.Ends.{same_end-self}
use Rattle.tfree.specs.declared.stamp.Sent.{Sent}
use Rattle.tfree.specs.Lists.{taken_packet}
use Rattle.tfree.specs.Lists.{event_taking}
use Rattle.tfree.specs.Views.{InView, OutView, got_of, put_of, with_got, with_put, Share}
use Rattle.tfree.specs.Logs.{packet_of, sent_as, IsActOf}
use Rattle.tfree.specs.Kept.{own_end}
use Rattle.tfree.specs.Slots.{slot_at, with_slot}
use Rattle.tfree.proofs.LinkSlots.{slot-set_same, slot-set_other}
use Rattle.tfree.proofs.RingOwners.{put_now, put-nothing}
use Rattle.tfree.proofs.NodeAnswers.{EmitsOn, EmitsNone}
use Rattle.tfree.proofs.Keeps.{put_there}

-- an event that is no packet's takes nothing
pub takes-none : (n l : ℕ) (e : NodeEvent) (x : End) (t : ℕ) → IsActOf l e → taken_packet n e x t ≡ []
takes-none n l Run x t h = refl
takes-none n l (Send k) x t h = refl
takes-none n l (Take k) x t h = refl
takes-none n l (Data k byte last) x t h = absurd h
takes-none n l (Ack k) x t h = absurd h

-- an event that takes a packet takes it at its own end
pub takes-here : (n l : ℕ) (s : Sent) → taken_packet n (event_taking l s.packet) (end_at n l) s.stamp ≡ s ∷ []
takes-here n l s = by s.packet refl
  where
    by : (p : Packet) → s.packet ≡ p → taken_packet n (event_taking l s.packet) (end_at n l) s.stamp ≡ s ∷ []
    by (packet.Data byte last) e = rw (e, same_end-self (end_at n l)) refl
    by packet.Ack e = rw (e, same_end-self (end_at n l)) refl

-- two ends with other numbers are two
other_ends : (n l m k : ℕ) → (n ≢ m) ⊎ (l ≢ k) → same_end (end_at n l) (end_at m k) ≡ false
other_ends n l m k (inl h) = and_left _ _ (ne_eqb n m h)
other_ends n l m k (inr h) = and_right _ _ (ne_eqb l k h)

takes-elsewhere : (n l m k : ℕ) (p : Packet) (t : ℕ) → (n ≢ m) ⊎ (l ≢ k)
    → taken_packet n (event_taking l p) (end_at m k) t ≡ []
takes-elsewhere n l m k (packet.Data byte last) t h = rw (other_ends n l m k h) refl
takes-elsewhere n l m k packet.Ack t h = rw (other_ends n l m k h) refl

-- two links are the same, or differ by node or by number
pub same_or_not : (i l j k : ℕ) → ((j ≡ i) × (k ≡ l)) ⊎ ((j ≢ i) ⊎ (k ≢ l))
same_or_not i l j k = by (cases_eq j i) (cases_eq k l)
  where
    by : (j ≡ i) ⊎ (j ≢ i) → (k ≡ l) ⊎ (k ≢ l) → ((j ≡ i) × (k ≡ l)) ⊎ ((j ≢ i) ⊎ (k ≢ l))
    by (inl p) (inl q) = inl (p, q)
    by (inl p) (inr q) = inr (inr q)
    by (inr p) q = inr (inl p)

more_got : (x : Option InView) (more : List Sent) → IsSome x → got_of (option_map (with_got more) x) ≡ got_of x ++ more
more_got None more h = cc
more_got (Some v) more h = refl

-- a packet was taken at a link
module _ (s : Share) (i l : ℕ) (sent : Sent) (ins : List (List (Option InView))) (x x' : Option InView)
    (here : i < length ins) (four : l < length (slice_index_or ins i [])) (is : x ≡ slot_at ins i l)
    (some : IsSome x) (more : x' ≡ option_map (with_got (sent ∷ [])) x) where
  pub took_in : (j k : ℕ) → j < s.owned → k < 4
      → got_of (slot_at (with_slot i l x' ins) j k)
      ≡ got_of (slot_at ins j k)
      ++ taken_packet (s.first + i) (event_taking l sent.packet) (own_end s j k) sent.stamp
  took_in j k b c = by (same_or_not i l j k)
    where
      by : ((j ≡ i) × (k ≡ l)) ⊎ ((j ≢ i) ⊎ (k ≢ l))
          → got_of (slot_at (with_slot i l x' ins) j k)
          ≡ got_of (slot_at ins j k)
          ++ taken_packet (s.first + i) (event_taking l sent.packet) (own_end s j k) sent.stamp
      by (inl h) =
          rw (h.0, h.1)
          (ap got_of (slot-set_same ins i l x' here four ∙ more) ∙ more_got x (sent ∷ []) some
          ∙ ap (λ (y : Option InView). got_of y ++ sent ∷ []) is
          ∙ ap (λ (ys : List Sent). got_of (slot_at ins i l) ++ ys)
          (sym (takes-here (s.first + i) l sent)))
      by (inr h) =
          ap got_of (slot-set_other ins i l x' j k here h)
          ∙ sym (append-nil (got_of (slot_at ins j k)))
          ∙ ap (λ (ys : List Sent). got_of (slot_at ins j k) ++ ys)
          (sym (takes-elsewhere (s.first + i) l (s.first + j) k sent.packet sent.stamp (apart h)))
        where
          apart : (j ≢ i) ⊎ (k ≢ l) → (s.first + i ≢ s.first + j) ⊎ (l ≢ k)
          apart (inl d) = inl (λ e. d (omega (arith, e)))
          apart (inr d) = inr (λ e. d (sym e))

-- nothing was taken
pub took_none : (s : Share) (i l : ℕ) (e : NodeEvent) (t : ℕ) (ins : List (List (Option InView))) → IsActOf l e
    → (j k : ℕ)
    → j < s.owned → k < 4
    → got_of (slot_at ins j k) ≡ got_of (slot_at ins j k)
    ++ taken_packet (s.first + i) e (own_end s j k) t
took_none s i l e t ins h j k b c =
    rw (takes-none (s.first + i) l e (own_end s j k) t h)
    (sym (append-nil (got_of (slot_at ins j k))))

-- an answer that emits nothing puts nothing anywhere
none_now : (f : Option End) (e : End) (n st : ℕ) (a : Answer) → EmitsNone a → put_now f e n st a ≡ []
none_now None e n st (Ok (m, em)) h = refl
none_now (Some f) e n st (Ok (m, em)) h = rw h refl
none_now None e n st (Err x) h = refl
none_now (Some f) e n st (Err x) h = refl

puts-none : (opened : NetState) (f : End) (n st : ℕ) (a : Answer) → EmitsNone a → put_there opened f n st a ≡ []
puts-none opened f n st a h = by (far_end opened.wires f) refl
  where
    by : (o : Option End) → far_end opened.wires f ≡ o → put_there opened f n st a ≡ []
    by None e = rw e refl
    by (Some x) e = rw e (none_now (Some f) x n st a h)

pub put_none : (s : Share) (i st : ℕ) (a : Answer) (outs : List (List (Option OutView))) → EmitsNone a → (j k : ℕ)
    → j < s.owned → k < 4
    → put_of (slot_at outs j k) ≡ put_of (slot_at outs j k)
    ++ put_there s.opened (own_end s j k) (s.first + i) st a
put_none s i st a outs h j k b c =
    rw (puts-none s.opened (own_end s j k) (s.first + i) st a h)
    (sym (append-nil (put_of (slot_at outs j k))))

-- what is emitted on a link is put there
now_here : (n l : ℕ) (x : End) (st : ℕ) (a : Answer) → EmitsOn l a
    → put_now (Some (end_at n l)) x n st a ≡ sent_as (packet_of a) st
now_here n l x st (Err f) h = refl
now_here n l x st (Ok (m, em)) (inl h) = rw h refl
now_here n l x st (Ok (m, em)) (inr h) = rw (h.1, same_end-self (end_at n l)) refl

-- and nowhere else
now_elsewhere : (n l k : ℕ) (x : End) (st : ℕ) (a : Answer) → EmitsOn l a → l ≢ k
    → put_now (Some (end_at n k)) x n st a ≡ []
now_elsewhere n l k x st (Err f) h d = refl
now_elsewhere n l k x st (Ok (m, em)) (inl h) d = rw h refl
now_elsewhere n l k x st (Ok (m, em)) (inr h) d = rw (h.1, other_ends n k n l (inr (λ e. d (sym e)))) refl

more_put : (x : Option OutView) (more : List Sent) → IsSome x → put_of (option_map (with_put more) x) ≡ put_of x ++ more
more_put None more h = cc
more_put (Some v) more h = refl

-- something was put at a link, if it has a wire
module _ (s : Share) (i l st : ℕ) (a : Answer) (outs : List (List (Option OutView))) (x x' : Option OutView)
    (here : i < length outs) (four : l < length (slice_index_or outs i [])) (is : x ≡ slot_at outs i l)
    (wired : is_some x ≡ is_some (far_end s.opened.wires (own_end s i l))) (on : EmitsOn l a)
    (more : x' ≡ option_map (with_put (sent_as (packet_of a) st)) x) where
  now_there : (o : Option End) → far_end s.opened.wires (own_end s i l) ≡ o → is_some x ≡ is_some o
      → put_of x' ≡ put_of x ++ put_there s.opened (own_end s i l) (s.first + i) st a
  now_there None e w = rw (e, more) (bare x w)
    where
      bare : (y : Option OutView) → is_some y ≡ false
          → put_of (option_map (with_put (sent_as (packet_of a) st)) y) ≡ put_of y ++ []
      bare None h = refl
      bare (Some v) h = cc
  now_there (Some z) e w =
      rw (e, more) (more_put x (sent_as (packet_of a) st) w
      ∙ ap (λ (ys : List Sent). put_of x ++ ys) (sym (now_here (s.first + i) l z st a on)))

  elsewhere : (j k : ℕ) → (j ≢ i) ⊎ (k ≢ l) → (o : Option End) → far_end s.opened.wires (own_end s j k) ≡ o
      → put_there s.opened (own_end s j k) (s.first + i) st a ≡ []
  elsewhere j k d None e = rw e refl
  elsewhere j k (inl d) (Some z) e = rw e (put-nothing (own_end s j k) z (s.first + i) st a (λ q. d (omega (arith, q))))
  elsewhere j k (inr d) (Some z) e = by (cases_eq i j)
    where
      by : (i ≡ j) ⊎ (i ≢ j) → put_there s.opened (own_end s j k) (s.first + i) st a ≡ []
      by (inl q) = rw (e, q) (now_elsewhere (s.first + j) l k z st a on (λ h. d (sym h)))
      by (inr q) = rw e (put-nothing (own_end s j k) z (s.first + i) st a (λ h. q (omega (arith, h))))

  pub put_out : (j k : ℕ) → j < s.owned → k < 4
      → put_of (slot_at (with_slot i l x' outs) j k)
      ≡ put_of (slot_at outs j k) ++ put_there s.opened (own_end s j k) (s.first + i) st a
  put_out j k b c = by (same_or_not i l j k)
    where
      by : ((j ≡ i) × (k ≡ l)) ⊎ ((j ≢ i) ⊎ (k ≢ l))
          → put_of (slot_at (with_slot i l x' outs) j k)
          ≡ put_of (slot_at outs j k)
          ++ put_there s.opened (own_end s j k) (s.first + i) st a
      by (inl h) =
          rw (h.0, h.1)
          (ap put_of (slot-set_same outs i l x' here four)
          ∙ now_there (far_end s.opened.wires (own_end s i l)) refl wired
          ∙ ap (λ (y : Option OutView). put_of y ++ put_there s.opened (own_end s i l) (s.first + i) st a) is)
      by (inr h) =
          ap put_of (slot-set_other outs i l x' j k here h)
          ∙ sym (append-nil (put_of (slot_at outs j k)))
          ∙ ap (λ (ys : List Sent). put_of (slot_at outs j k) ++ ys)
          (sym (elsewhere j k h (far_end s.opened.wires (own_end s j k)) refl))
