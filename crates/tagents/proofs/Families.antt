-- The family is tidy.
use Rattle.std.proofs.Common.{ℕ, zero, suc, ◌+◌, ◌≡◌, ◌≢◌, refl, sym, ap, ◌∙◌, true, false, List, [], ◌∷◌}
use Rattle.std.proofs.Common.{inl, inr, true≢false, arith, map}
use Rattle.tagents.specs.Walks.{Sight, doing, looking, sight}
use Rattle.tagents.specs.Tidy.{IsGate, AreTold, AreTidy, OneWasShut, IsCareful}
use Rattle.tagents.specs.Family.{Member, Parent, First, Second, Successor, Spot, Standing, Count, Total, Content}
use Rattle.tagents.specs.Family.{Absent, Ready, Done, Remaining, Amount, Spoilt, Change, Put, CountDown, Add, Start}
use Rattle.tagents.specs.Family.{same_member, same_spot, opens, changed_content, kind_of_change}
use Rattle.tagents.specs.Family.{kinds_commute, awakens_with, family, at_start, if_absent, conclude, if_none_remains}
use Rattle.tagents.specs.Family.{saw}
use Rattle.tagents.proofs.Careful.{keep_gates, careful_after}

is_same : (a b : Member) → same_member a b ≡ true → a ≡ b
is_same Parent Parent h = refl
is_same First First h = refl
is_same Second Second h = refl
is_same Successor Successor h = refl
is_same Parent First h = absurd (true≢false (sym h))
is_same Parent Second h = absurd (true≢false (sym h))
is_same Parent Successor h = absurd (true≢false (sym h))
is_same First Parent h = absurd (true≢false (sym h))
is_same First Second h = absurd (true≢false (sym h))
is_same First Successor h = absurd (true≢false (sym h))
is_same Second Parent h = absurd (true≢false (sym h))
is_same Second First h = absurd (true≢false (sym h))
is_same Second Successor h = absurd (true≢false (sym h))
is_same Successor Parent h = absurd (true≢false (sym h))
is_same Successor First h = absurd (true≢false (sym h))
is_same Successor Second h = absurd (true≢false (sym h))

self : (a : Member) → same_member a a ≡ true
self Parent = refl
self First = refl
self Second = refl
self Successor = refl

is_same_spot : (p q : Spot) → same_spot p q ≡ true → p ≡ q
is_same_spot (Standing m) (Standing n) h = ap Standing (is_same m n h)
is_same_spot Count Count h = refl
is_same_spot Total Total h = refl
is_same_spot (Standing m) Count h = absurd (true≢false (sym h))
is_same_spot (Standing m) Total h = absurd (true≢false (sym h))
is_same_spot Count (Standing n) h = absurd (true≢false (sym h))
is_same_spot Count Total h = absurd (true≢false (sym h))
is_same_spot Total (Standing n) h = absurd (true≢false (sym h))
is_same_spot Total Count h = absurd (true≢false (sym h))

self_spot : (p : Spot) → same_spot p p ≡ true
self_spot (Standing m) = self m
self_spot Count = refl
self_spot Total = refl

told : AreTold family
told =
    record {
      is_same = is_same;
      not_same = λ a b h q. true≢false (sym (self a) ∙ ap (same_member a) q ∙ h);
      is_same_place = is_same_spot;
      not_same_place = λ p q h k. true≢false (sym (self_spot p) ∙ ap (same_spot p) k ∙ h);
    }

-- two amounts may be added in either order
add_both : (m n : ℕ) (v : Content)
    → changed_content (Add m) (changed_content (Add n) v) ≡ changed_content (Add n) (changed_content (Add m) v)
add_both m n (Amount k) =
    ap Amount (let swap : k + n + m ≡ k + m + n = omega arith in swap)
add_both m n Absent = refl
add_both m n Ready = refl
add_both m n Done = refl
add_both m n (Remaining k) = refl
add_both m n Spoilt = refl

commute : (c d : Change) (v : Content) → kinds_commute (kind_of_change c) (kind_of_change d) ≡ true
    → changed_content c (changed_content d v) ≡ changed_content d (changed_content c v)
commute CountDown CountDown v h = refl
commute (Add m) (Add n) v h = add_both m n v
commute (Put u) d v h = absurd (true≢false (sym h))
commute CountDown (Put u) v h = absurd (true≢false (sym h))
commute CountDown (Add n) v h = absurd (true≢false (sym h))
commute (Add m) (Put u) v h = absurd (true≢false (sym h))
commute (Add m) CountDown v h = absurd (true≢false (sym h))

-- the count that awakens was one
was_shut : (v : Content) → awakens_with CountDown (changed_content CountDown v) ≡ true → opens v ≡ false
was_shut (Remaining (suc zero)) h = refl
was_shut (Remaining zero) h = absurd (true≢false (sym h))
was_shut (Remaining (suc (suc n))) h = absurd (true≢false (sym h))
was_shut Absent h = absurd (true≢false (sym h))
was_shut Ready h = absurd (true≢false (sym h))
was_shut Done h = absurd (true≢false (sym h))
was_shut (Amount n) h = absurd (true≢false (sym h))
was_shut Spoilt h = absurd (true≢false (sym h))

awaken : (c : Change) (v : Content) → awakens_with c (changed_content c v) ≡ true → opens v ≡ false
awaken CountDown v h = was_shut v h
awaken (Put u) v h = absurd (true≢false (sym h))
awaken (Add n) v h = absurd (true≢false (sym h))

-- what is counted or added to without a look shuts nothing
count_shuts_none : (v : Content) → opens v ≡ true → opens (changed_content CountDown v) ≡ true
count_shuts_none (Remaining zero) h = refl
count_shuts_none (Remaining (suc n)) h = absurd (true≢false (sym h))
count_shuts_none Absent h = absurd (true≢false (sym h))
count_shuts_none Ready h = refl
count_shuts_none Done h = absurd (true≢false (sym h))
count_shuts_none (Amount n) h = absurd (true≢false (sym h))
count_shuts_none Spoilt h = refl

add_shuts_none : (n : ℕ) (v : Content) → opens v ≡ true → opens (changed_content (Add n) v) ≡ true
add_shuts_none n (Remaining k) h = refl
add_shuts_none n Absent h = absurd (true≢false (sym h))
add_shuts_none n Ready h = refl
add_shuts_none n Done h = absurd (true≢false (sym h))
add_shuts_none n (Amount k) h = absurd (true≢false (sym h))
add_shuts_none n Spoilt h = refl

-- whose gate a spot is
standing_of : (b m : Member) → IsGate family b (Standing m) → b ≡ m
standing_of Parent m (inl h) = cc
standing_of First m (inl h) = cc
standing_of Second m (inl h) = cc
standing_of Successor m (inl h) = absurd (cc)
standing_of b m (inr h) = absurd h

count_of : (b : Member) → IsGate family b Count → b ≡ Successor
count_of Parent (inl h) = absurd (cc)
count_of First (inl h) = absurd (cc)
count_of Second (inl h) = absurd (cc)
count_of Successor (inl h) = refl
count_of b (inr h) = absurd h

total_of : (b : Member) → IsGate family b Total → ⊥
total_of Parent (inl h) = cc
total_of First (inl h) = cc
total_of Second (inl h) = cc
total_of Successor (inl h) = cc
total_of b (inr h) = h

-- a member's own standing is nobody else's gate
own : (a b : Member) (seen : List (Sight Spot Content)) → b ≢ a → IsGate family b (Standing a)
    → OneWasShut family b seen
own a b seen other gate = absurd (other (standing_of b a gate))

-- the parent starts children that it saw absent; who gives up changes nothing
second_absent : (v : Content) → IsCareful family Parent (saw (Standing Second) v ∷ saw (Standing First) Absent ∷ [])
    (if_absent (doing Start) v)
second_absent Absent = λ h. (
  inr (λ b other gate. (Standing First, gate, inr (inl (refl, refl)))),
  (
    inr (λ b other gate. (Standing Second, gate, inl (refl, refl))),
    (inr (λ b other gate. own Parent b seen other gate), tt),
  ),
)
  where
    seen : List (Sight Spot Content)
    seen = saw (Standing Second) Absent ∷ saw (Standing First) Absent ∷ []
second_absent Ready = λ h. tt
second_absent Done = λ h. tt
second_absent (Remaining n) = λ h. tt
second_absent (Amount n) = λ h. tt
second_absent Spoilt = λ h. tt

first_absent : (v : Content) → IsCareful family Parent (saw (Standing First) v ∷ [])
    (if_absent (looking (Standing Second) (if_absent (doing Start))) v)
first_absent Absent = second_absent
first_absent Ready = λ h. tt
first_absent Done = λ h. tt
first_absent (Remaining n) = λ h. tt
first_absent (Amount n) = λ h. tt
first_absent Spoilt = λ h. tt

-- the successor changes its own gate, and the total, which is no gate
concludes : (v : Content) → IsCareful family Successor (saw Total v ∷ saw Count (Remaining zero) ∷ []) (conclude v)
concludes (Amount n) = λ h. (
  inr (λ b other gate. absurd (total_of b gate)),
  (inr (λ b other gate. absurd (other (count_of b gate))), tt),
)
concludes Absent = λ h. tt
concludes Ready = λ h. tt
concludes Done = λ h. tt
concludes (Remaining n) = λ h. tt
concludes Spoilt = λ h. tt

none_remains : (v : Content) → IsCareful family Successor (saw Count v ∷ []) (if_none_remains v)
none_remains (Remaining zero) = concludes
none_remains (Remaining (suc n)) = λ h. tt
none_remains Absent = λ h. tt
none_remains Ready = λ h. tt
none_remains Done = λ h. tt
none_remains (Amount n) = λ h. tt
none_remains Spoilt = λ h. tt

careful : (a : Member) → IsCareful family a [] (family.walk a)
careful Parent = first_absent
careful First = λ h. (
  inr (λ b other gate. own First b [] other gate),
  (inl (λ b p v gate is. add_shuts_none 3 v is), (inl (λ b p v gate is. count_shuts_none v is), tt)),
)
careful Second = λ h. (
  inr (λ b other gate. own Second b [] other gate),
  (inl (λ b p v gate is. add_shuts_none 4 v is), (inl (λ b p v gate is. count_shuts_none v is), tt)),
)
careful Successor = none_remains

-- the sights of gates change nothing of that
seen_more : (a : Member) (s : Spot → Content) → IsCareful family a (map (sight s) (family.gates a)) (family.walk a)
seen_more a s =
    careful_after family a [] (map (sight s) (family.gates a)) (family.walk a) (λ b p was. absurd was) (careful a)

pub tidy : AreTidy family at_start
tidy =
    record {
      told = told;
      commute = commute;
      awaken = λ c b p v gate h. awaken c v h;
      keep = keep_gates family told at_start (λ a s h. seen_more a s);
    }
