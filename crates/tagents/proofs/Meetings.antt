-- The meeting is a framed machine, and its run has no race.
use Rattle.std.proofs.Common.{ℕ, ◌≡◌, ◌≢◌, refl, sym, ap, ◌∙◌, subst, Bool, true, false, ◌⊎◌, inl, inr, true≢false}
use Rattle.std.proofs.Common.{Option, Some, None, arith}
use Rattle.std.specs.Prelude.{◌==◌, ◌&&◌, if◌then◌else◌}
use Rattle.std.proofs.lemmas.Bool.{eqb-true, eq-eqb, and_parts, and_from}
use Rattle.std.proofs.lemmas.Option.{same_Some}
use Rattle.tagents.specs.Agents.{Does, IsOver}
use Rattle.tagents.specs.Frames.{changed, IsFramed, AreQuiet, IsFramedMachine}
use Rattle.tagents.specs.Meeting.{Party, Sender, Receiver, Channel, Deed, Offer, Ask, Copy, Finish, Spot, AtSender}
use Rattle.tagents.specs.Meeting.{AtReceiver, Buffer, party_of, same_party, deeds, meeting, before_meeting}
use Rattle.tagents.specs.Meeting.{after_meeting, MeetingIsCertified}
use Rattle.tagents.proofs.Framed.{lawful}

-- when a deed can be done
abbrev Ready : Deed → (Spot → ℕ) → Type 0
Ready Offer s = s AtSender ≡ 0
Ready Ask s = s AtReceiver ≡ 0
Ready Copy s = (s AtSender ≡ 1) × (s AtReceiver ≡ 1)
Ready Finish s = s AtReceiver ≡ 2

none_some : {X : Type 0} (x : X) → None ≡ Some x → ⊥
none_some x h = cc

-- the one step after a test
tested : {X : Type 0} (b : Bool) (x y : X) → (if b then Some x else None) ≡ Some y → (b ≡ true) × (x ≡ y)
tested true x y h = (refl, same_Some x y h)
tested false x y h = absurd (none_some y h)

pass : {X : Type 0} (b : Bool) (x : X) (z : Option X) → b ≡ true → (if b then Some x else z) ≡ Some x
pass b x z h = rw h refl

over_it : {X : Type 0} (b : Bool) (x : X) (z : Option X) → b ≡ false → (if b then Some x else z) ≡ z
over_it b x z h = rw h refl

not_both : (n : ℕ) → n ≡ 2 → (n == 0) ≡ false
not_both n h = rw h refl

two_tests : {X : Type 0} (b c : Bool) (x y z : X) → (if b then Some x else if c then Some y else None) ≡ Some z
    → ((b ≡ true) × (x ≡ z)) ⊎ ((c ≡ true) × (y ≡ z))
two_tests true c x y z h = inl (refl, same_Some x z h)
two_tests false true x y z h = inr (refl, same_Some y z h)
two_tests false false x y z h = absurd (none_some z h)

abbrev Both : Type 0
Both = Deed × (Spot → ℕ)

second : (e f : Deed) (s t : Spot → ℕ) → (let p : Both = (e, s) in let q : Both = (f, t) in p ≡ q) → t ≡ s
second e f s t h = sym (ap (λ (x : Both). x.1) h)

first : (e f : Deed) (s t : Spot → ℕ) → (let p : Both = (e, s) in let q : Both = (f, t) in p ≡ q) → e ≡ f
first e f s t h = ap (λ (x : Both). x.0) h

fact : (s s' : Spot → ℕ) (e : Deed) → Does meeting s e s' → Ready e s × (s' ≡ changed deeds e s)
fact s s' Offer d =
    let h : ((s AtSender == 0) ≡ true) × _ = tested (s AtSender == 0) _ _ d in
    (eqb-true _ _ h.0, second Offer Offer _ _ h.1)
fact s s' Ask d =
    elim (two_tests (s AtReceiver == 0) (s AtReceiver == 2) _ _ _ d)
    as (λ _. Ready Ask s × (s' ≡ changed deeds Ask s)) [
      | inl h ↦ (eqb-true _ _ h.0, second Ask Ask _ _ h.1)
      | inr h ↦ absurd (let q : Finish ≡ Ask = first Finish Ask _ _ h.1 in cc)
    ]
fact s s' Copy d =
    let h : (((s AtSender == 1) && (s AtReceiver == 1)) ≡ true) × _ =
    tested ((s AtSender == 1) && (s AtReceiver == 1)) _ _ d in
    let k : ((s AtSender == 1) ≡ true) × ((s AtReceiver == 1) ≡ true) = and_parts _ _ h.0 in
    ((eqb-true _ _ k.0, eqb-true _ _ k.1), second Copy Copy _ _ h.1)
fact s s' Finish d =
    elim (two_tests (s AtReceiver == 0) (s AtReceiver == 2) _ _ _ d)
    as (λ _. Ready Finish s × (s' ≡ changed deeds Finish s)) [
      | inl h ↦ absurd (let q : Ask ≡ Finish = first Ask Finish _ _ h.1 in cc)
      | inr h ↦ (eqb-true _ _ h.0, second Finish Finish _ _ h.1)
    ]

done_so : (s : Spot → ℕ) (e : Deed) → Ready e s → Does meeting s e (changed deeds e s)
done_so s Offer r = pass _ _ _ (eq-eqb (s AtSender) 0 r)
done_so s Ask r = pass _ _ _ (eq-eqb (s AtReceiver) 0 r)
done_so s Copy r = pass _ _ _ (and_from _ _ (eq-eqb (s AtSender) 1 r.0) (eq-eqb (s AtReceiver) 1 r.1))
done_so s Finish r = over_it _ _ _ (not_both (s AtReceiver) r) ∙ pass _ _ _ (eq-eqb (s AtReceiver) 2 r)

-- readiness is told by what a deed looks at
ready_there : (e : Deed) (s t : Spot → ℕ) → Ready e s → ((p : Spot) → deeds.looks e p ≡ true → t p ≡ s p) → Ready e t
ready_there Offer s t r h = h AtSender refl ∙ r
ready_there Ask s t r h = h AtReceiver refl ∙ r
ready_there Copy s t r h = (h AtSender refl ∙ r.0, h AtReceiver refl ∙ r.1)
ready_there Finish s t r h = h AtReceiver refl ∙ r

framed : IsFramed meeting deeds before_meeting
framed =
    record {
      changes = λ s s' e r d. (fact s s' e d).1;
      repeats = λ s s' t e r r' d h. done_so t e (ready_there e s t (fact s s' e d).0 h);
    }

-- what one looks at the other leaves, and they change different places
offer_leaves_ask : (p : Spot) (v : ℕ) → deeds.looks Ask p ≡ true → deeds.change Offer p v ≡ v
offer_leaves_ask AtSender v h = absurd (true≢false (sym h))
offer_leaves_ask AtReceiver v h = refl
offer_leaves_ask Buffer v h = absurd (true≢false (sym h))

offer_and_ask : (p : Spot) (v : ℕ)
    → deeds.change Offer p (deeds.change Ask p v) ≡ deeds.change Ask p (deeds.change Offer p v)
offer_and_ask AtSender v = refl
offer_and_ask AtReceiver v = refl
offer_and_ask Buffer v = refl

ask_leaves_offer : (p : Spot) (v : ℕ) → deeds.looks Offer p ≡ true → deeds.change Ask p v ≡ v
ask_leaves_offer AtSender v h = refl
ask_leaves_offer AtReceiver v h = absurd (true≢false (sym h))
ask_leaves_offer Buffer v h = absurd (true≢false (sym h))

ask_and_offer : (p : Spot) (v : ℕ)
    → deeds.change Ask p (deeds.change Offer p v) ≡ deeds.change Offer p (deeds.change Ask p v)
ask_and_offer AtSender v = refl
ask_and_offer AtReceiver v = refl
ask_and_offer Buffer v = refl

offer_leaves_finish : (p : Spot) (v : ℕ) → deeds.looks Finish p ≡ true → deeds.change Offer p v ≡ v
offer_leaves_finish AtSender v h = absurd (true≢false (sym h))
offer_leaves_finish AtReceiver v h = refl
offer_leaves_finish Buffer v h = refl

offer_and_finish : (p : Spot) (v : ℕ)
    → deeds.change Offer p (deeds.change Finish p v) ≡ deeds.change Finish p (deeds.change Offer p v)
offer_and_finish AtSender v = refl
offer_and_finish AtReceiver v = refl
offer_and_finish Buffer v = refl

finish_leaves_offer : (p : Spot) (v : ℕ) → deeds.looks Offer p ≡ true → deeds.change Finish p v ≡ v
finish_leaves_offer AtSender v h = refl
finish_leaves_offer AtReceiver v h = absurd (true≢false (sym h))
finish_leaves_offer Buffer v h = absurd (true≢false (sym h))

finish_and_offer : (p : Spot) (v : ℕ)
    → deeds.change Finish p (deeds.change Offer p v) ≡ deeds.change Offer p (deeds.change Finish p v)
finish_and_offer AtSender v = refl
finish_and_offer AtReceiver v = refl
finish_and_offer Buffer v = refl

quiet : (e f : Deed) → meeting.clash e f ≡ false → AreQuiet meeting deeds before_meeting e f
quiet Offer Ask c =
    record { first = offer_leaves_ask; second = ask_leaves_offer; commute = offer_and_ask }
quiet Ask Offer c =
    record { first = ask_leaves_offer; second = offer_leaves_ask; commute = ask_and_offer }
quiet Offer Finish c =
    record { first = offer_leaves_finish; second = finish_leaves_offer; commute = offer_and_finish }
quiet Finish Offer c =
    record { first = finish_leaves_offer; second = offer_leaves_finish; commute = finish_and_offer }
quiet Offer Offer c = absurd (true≢false c)
quiet Offer Copy c = absurd (true≢false c)
quiet Ask Ask c = absurd (true≢false c)
quiet Ask Copy c = absurd (true≢false c)
quiet Ask Finish c = absurd (true≢false c)
quiet Copy f c = absurd (true≢false c)
quiet Finish Ask c = absurd (true≢false c)
quiet Finish Copy c = absurd (true≢false c)
quiet Finish Finish c = absurd (true≢false c)

-- two deeds of two parties that can be done at once: none takes the other away
both_ready : (e f : Deed) (s : Spot → ℕ) → party_of e ≢ party_of f → Ready e s → Ready f s
    → Ready f (changed deeds e s)
both_ready Offer Ask s d r k = k
both_ready Offer Finish s d r k = k
both_ready Ask Offer s d r k = k
both_ready Finish Offer s d r k = k
both_ready Offer Offer s d r k = absurd (d refl)
both_ready Ask Ask s d r k = absurd (d refl)
both_ready Ask Finish s d r k = absurd (d refl)
both_ready Finish Ask s d r k = absurd (d refl)
both_ready Finish Finish s d r k = absurd (d refl)
both_ready Copy Copy s d r k = absurd (d refl)
both_ready Offer Copy s d r k = absurd (omega (arith, r, k.0))
both_ready Copy Offer s d r k = absurd (omega (arith, r.0, k))
both_ready Ask Copy s d r k = absurd (omega (arith, r, k.1))
both_ready Copy Ask s d r k = absurd (omega (arith, r.1, k))
both_ready Finish Copy s d r k = absurd (omega (arith, r, k.1))
both_ready Copy Finish s d r k = absurd (omega (arith, r.1, k))

-- what a deed leads to is of a party that had none
had_none : (e f g : Deed) (s : Spot → ℕ) → Ready e s → Ready f s → party_of g ≡ party_of f
    → meeting.leads e g ≡ true → ⊥
had_none Offer Copy Copy s r k q l = omega (arith, r, k.0)
had_none Ask Copy Copy s r k q l = omega (arith, r, k.1)
had_none Copy Ask Finish s r k q l = omega (arith, r.1, k)
had_none Copy Finish Finish s r k q l = omega (arith, r.1, k)
had_none Offer Offer Copy s r k q l = cc
had_none Offer Ask Copy s r k q l = cc
had_none Offer Finish Copy s r k q l = cc
had_none Ask Offer Copy s r k q l = cc
had_none Ask Ask Copy s r k q l = cc
had_none Ask Finish Copy s r k q l = cc
had_none Copy Offer Finish s r k q l = cc
had_none Copy Copy Finish s r k q l = cc
had_none Offer f Offer s r k q l = true≢false (sym l)
had_none Offer f Ask s r k q l = true≢false (sym l)
had_none Offer f Finish s r k q l = true≢false (sym l)
had_none Ask f Offer s r k q l = true≢false (sym l)
had_none Ask f Ask s r k q l = true≢false (sym l)
had_none Ask f Finish s r k q l = true≢false (sym l)
had_none Copy f Offer s r k q l = true≢false (sym l)
had_none Copy f Ask s r k q l = true≢false (sym l)
had_none Copy f Copy s r k q l = true≢false (sym l)
had_none Finish f g s r k q l = true≢false (sym l)

same : (a b : Party) → same_party a b ≡ true → a ≡ b
same Sender Sender h = refl
same Receiver Receiver h = refl
same Channel Channel h = refl
same Sender Receiver h = absurd (true≢false (sym h))
same Sender Channel h = absurd (true≢false (sym h))
same Receiver Sender h = absurd (true≢false (sym h))
same Receiver Channel h = absurd (true≢false (sym h))
same Channel Sender h = absurd (true≢false (sym h))
same Channel Receiver h = absurd (true≢false (sym h))

not_same : (a b : Party) → same_party a b ≡ false → a ≢ b
not_same Sender b h q = true≢false (ap (same_party Sender) q ∙ h)
not_same Receiver b h q = true≢false (ap (same_party Receiver) q ∙ h)
not_same Channel b h q = true≢false (ap (same_party Channel) q ∙ h)

machine : IsFramedMachine meeting deeds before_meeting
machine =
    record {
      is_same = same;
      not_same = not_same;
      framed = framed;
      quiet = λ e f d c. quiet e f c;
      stays = λ s s1 s2 e f r d d1 d2 stops. record {
        label = f;
        after = changed deeds f s1;
        same = refl;
        does = done_so s1 f
            (subst (λ (x : Spot → ℕ). Ready f x) (sym (fact s s1 e d1).1)
            (both_ready e f s d (fact s s1 e d1).0 (fact s s2 f d2).0));
      };
      waits = λ s s1 s2 s3 e f g r d d1 d2 stops q d3 leads.
          had_none e f g s (fact s s1 e d1).0 (fact s s2 f d2).0 q leads;
    }

over : IsOver meeting after_meeting
over e s' d = none e (fact after_meeting s' e d).0
  where
    none : (e : Deed) → Ready e after_meeting → ⊥
    none Offer r = omega (arith, r)
    none Ask r = omega (arith, r)
    none Copy r = omega (arith, r.0)
    none Finish r = omega (arith, r)

pub meeting_is_certified : MeetingIsCertified
meeting_is_certified =
    record {
      lawful = lawful meeting deeds before_meeting machine;
      run = (
        changed deeds Offer before_meeting,
        refl,
        (changed deeds Ask (changed deeds Offer before_meeting), refl, (_, refl, (after_meeting, refl, refl))),
      );
      over = over;
      race_free = (
        inr (refl, inl (inl (inr refl), inr (refl, tt))),
        (inl (inl (inr refl), inl (inl (inr refl), tt)), (inl (inl (inr refl), tt), (tt, tt))),
      );
      takes_nothing = (refl, (refl, (refl, (refl, tt))));
    }
