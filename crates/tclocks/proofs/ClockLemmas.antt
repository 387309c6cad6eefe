-- Joined clocks.
use Rattle.std.proofs.Common.{◌≡◌, ℕ, ◌+◌, ◌<◌, ◌≤◌, List, [], ◌∷◌, length, max, slice_index, slice_set, suc, zero, ap}
use Rattle.std.proofs.Common.{refl, arith}
use Rattle.std.proofs.Common.{◌++◌, ◌∙◌, replicate, subst, sym}
use Rattle.std.proofs.Common.{◌≢◌, ◌⊎◌, inl, inr, ◌-◌, below_more, append-nil}
use Rattle.std.proofs.lemmas.List.{get_or-set_same, get_or-set_other, length-set}
use Rattle.std.proofs.Common.{slice_index_or}
use Rattle.tclocks.specs.Checks.{CountThemselves}
use Rattle.tclocks.specs.Clocks.{joined}

-- a count that is raised to the other clock's makes no difference
pub joined-set : (clock other : List ℕ) (i : ℕ) → i < length clock → i < length other
    → joined (slice_set clock i (max (slice_index clock i) (slice_index other i))) other ≡ joined clock other
joined-set [] other i h g = absurd (omega (arith, h))
joined-set (n ∷ ns) [] i h g = absurd (omega (arith, g))
joined-set (n ∷ ns) (k ∷ ks) zero h g =
    ap (λ (top : ℕ). top ∷ joined ns ks) (let e : max (max n k) k ≡ max n k = omega arith in e)
joined-set (n ∷ ns) (k ∷ ks) (suc i) h g =
    ap (λ (rest : List ℕ). max n k ∷ rest) (joined-set ns ks i (omega (arith, h)) (omega (arith, g)))

-- a clock that knows what the other one knows
pub joined-above : (clock other : List ℕ) → length other ≤ length clock
    → ((i : ℕ) → i < length other → slice_index other i ≤ slice_index clock i) → joined clock other ≡ clock
joined-above [] [] h above = refl
joined-above [] (k ∷ ks) h above = absurd (omega (arith, h))
joined-above (n ∷ ns) [] h above = refl
joined-above (n ∷ ns) (k ∷ ks) h above =
    let first : k ≤ n = above 0 (omega arith) in
    let top : max n k ≡ n = omega arith in
    let rest : joined ns ks ≡ ns =
    joined-above ns ks (omega (arith, h)) (λ i l. above (suc i) (omega (arith, l))) in
    ap (λ (t : ℕ). t ∷ joined ns ks) top ∙ ap (λ (r : List ℕ). n ∷ r) rest

-- what a joined clock has counted
pub slice_index-joined : (clock other : List ℕ) (i : ℕ)
    → slice_index (joined clock other) i ≡ max (slice_index clock i) (slice_index other i)
slice_index-joined [] other i = let e : max 0 (slice_index other i) ≡ slice_index other i = omega arith in sym e
slice_index-joined (n ∷ ns) [] zero = let e : max n 0 ≡ n = omega arith in sym e
slice_index-joined (n ∷ ns) [] (suc i) = let e : max (slice_index ns i) 0 ≡ slice_index ns i = omega arith in sym e
slice_index-joined (n ∷ ns) (k ∷ ks) zero = refl
slice_index-joined (n ∷ ns) (k ∷ ks) (suc i) = slice_index-joined ns ks i

-- it is as long as the longer one
pub length-joined : (clock other : List ℕ) → length (joined clock other) ≡ max (length clock) (length other)
length-joined [] other = let e : max 0 (length other) ≡ length other = omega arith in sym e
length-joined (n ∷ ns) [] = let e : max (suc (length ns)) 0 ≡ suc (length ns) = omega arith in sym e
length-joined (n ∷ ns) (k ∷ ks) =
    let rest : length (joined ns ks) ≡ max (length ns) (length ks) = length-joined ns ks in omega (arith, rest)

-- zeros behind the end make no difference, where the other clock is as long
pub joined-zeros : (clock other : List ℕ) (n : ℕ) → length clock + n ≡ length other
    → joined (clock ++ replicate n 0) other ≡ joined clock other
joined-zeros [] [] n h =
    let e : n ≡ 0 = omega (arith, h) in subst (λ (k : ℕ). joined (replicate k 0) [] ≡ []) (sym e) refl
joined-zeros [] (k ∷ ks) zero h = absurd (omega (arith, h))
joined-zeros [] (k ∷ ks) (suc n) h =
    let rest : joined (replicate n 0) ks ≡ ks = joined-zeros [] ks n (omega (arith, h)) in
    let top : max 0 k ≡ k = omega arith in
    ap (λ (t : ℕ). t ∷ joined (replicate n 0) ks) top ∙ ap (λ (r : List ℕ). k ∷ r) rest
joined-zeros (m ∷ ms) [] n h = absurd (omega (arith, h))
joined-zeros (m ∷ ms) (k ∷ ks) n h =
    ap (λ (r : List ℕ). max m k ∷ r) (joined-zeros ms ks n (omega (arith, h)))

-- raised so far, the counts come to the same joined clock, and none of the first ones is below the other clock's
pub record AreRaised (counts others initial : List ℕ) (place : ℕ) : Type 0 where
  pub room : length others ≤ length counts
  pub same : joined counts others ≡ joined initial others
  pub above : (k : ℕ) → k < place → slice_index others k ≤ slice_index counts k

pub raised_more : (counts others initial : List ℕ) (place v : ℕ) → place < length others
    → v ≡ max (slice_index counts place) (slice_index others place) → AreRaised counts others initial place
    → AreRaised (slice_set counts place v) others initial (place + 1)
raised_more counts others initial place v within is so =
    let here : place < length counts = omega (arith, within, so.room) in record {
      room = omega (arith, so.room, length-set counts place v);
      same = ap (λ (n : ℕ). joined (slice_set counts place n) others) is
          ∙ joined-set counts others place here within ∙ so.same;
      above = below_more (λ k. slice_index others k ≤ slice_index (slice_set counts place v) k) place
          (λ k h. (let other : k ≢ place = omega (arith, h) in
          let old : slice_index others k ≤ slice_index counts k = so.above k h in
          omega (arith, old, get_or-set_other counts place k v 0 other)))
          (omega (arith, is, get_or-set_same counts place v 0 here));
    }

pub raised_all : (counts others initial : List ℕ) (place : ℕ) → length others ≤ place
    → AreRaised counts others initial place → counts ≡ joined initial others
raised_all counts others initial place all so =
    sym (joined-above counts others so.room (λ i h. so.above i (omega (arith, h, all)))) ∙ so.same

-- a clock that has counts for at least as many agents as the other one
pub joined-widened : (clock other : List ℕ)
    → joined (clock ++ replicate (length other - length clock) 0) other ≡ joined clock other
joined-widened clock other =
    elim (reaches (length clock) (length other)) as
    (λ _. joined (clock ++ replicate (length other - length clock) 0) other ≡ joined clock other) [
      | inl h ↦ joined-zeros clock other (length other - length clock) (omega (arith, h))
      | inr h ↦
          let none : length other - length clock ≡ 0 = omega (arith, h) in
          subst (λ (n : ℕ). joined (clock ++ replicate n 0) other ≡ joined clock other) (sym none)
          (ap (λ (c : List ℕ). joined c other) (append-nil clock))
    ]
  where
    reaches : (m n : ℕ) → (m ≤ n) ⊎ (n < m)
    reaches m n = grind arith

-- a clock that knows more still has a count for its agent
pub CountThemselves-set : (clocks : List (List ℕ)) (i : ℕ) (clock : List ℕ) → CountThemselves clocks
    → length (slice_index_or clocks i []) ≤ length clock → CountThemselves (slice_set clocks i clock)
CountThemselves-set clocks i clock each longer agent h =
    let within : agent < length clocks = omega (arith, h, length-set clocks i clock) in
    let old : agent < length (slice_index_or clocks agent []) = each agent within in
    elim (same (agent) i) as (λ _. agent < length (slice_index_or (slice_set clocks i clock) agent [])) [
      | inl e ↦ subst (λ (c : List ℕ). agent < length c)
          (sym (ap (λ (j : ℕ). slice_index_or (slice_set clocks i clock) j []) e
          ∙ get_or-set_same clocks i clock [] (omega (arith, within, e))))
          (let here : agent < length (slice_index_or clocks i []) =
          subst (λ (j : ℕ). agent < length (slice_index_or clocks j [])) e old in
          omega (arith, here, longer))
      | inr other ↦ subst (λ (c : List ℕ). agent < length c) (sym (get_or-set_other clocks i agent clock [] other)) old
    ]
  where
    same : (j k : ℕ) → (j ≡ k) ⊎ (j ≢ k)
    same j k = grind arith
