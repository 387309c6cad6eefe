-- Bounds grow by one claim after another.
use Rattle.std.proofs.Common.{◌≡◌, ℕ, ◌+◌, ◌<◌, ◌≤◌, subst, sym, ap, ◌∙◌, ◌++◌, [], ◌∷◌, ◌⊎◌, inl, inr, List, Option}
use Rattle.std.proofs.Common.{Some, None, length, take, get_or, map, nat_lt, true, false, refl, arith}
use Rattle.std.proofs.lemmas.Bool.{le-ltb, lt-ltb, ne_eqb, cases_eq, and_left, and_right}
use Rattle.std.proofs.lemmas.List.{take_more, take_all}
use Rattle.std.proofs.lemmas.List.Elements.{All-push, All-weaker}
use Rattle.std.proofs.lemmas.List.Folds.{list_any_none}
use Rattle.std.specs.List.{list_any}
use Rattle.tword.specs.declared.span.Span.{Span}
use Rattle.tword.specs.Claims.{overlaps_claim}
use Rattle.tword.specs.Bounds.{IsWithin, AreWithin, bounds_of, meets}

wider : (low high l h : ℕ) → l ≤ low → high ≤ h → (c : Option Span) → IsWithin low high c → IsWithin l h c
wider low high l h p q None k = tt
wider low high l h p q (Some s) k = (omega arith, omega arith)

-- one more claim, within wider bounds
pub bounds-more : (low high l h i : ℕ) (cs : List (Option Span)) (c : Option Span) → AreWithin low high (take i cs)
    → i < length cs → c ≡ get_or cs i c
    → l ≤ low → high ≤ h → IsWithin l h c → AreWithin l h (take (i + 1) cs)
bounds-more low high l h i cs c k lt e p q one =
    let push : AreWithin l h (take i cs ++ c ∷ []) =
    All-push (IsWithin l h) (take i cs) c
    (All-weaker (IsWithin low high) (IsWithin l h) (wider low high l h p q) (take i cs) k) one in
    subst (λ (xs : List (Option Span)). AreWithin l h xs)
    (sym (take_more cs i c lt ∙ ap (λ (x : Option Span). take i cs ++ x ∷ []) (sym e))) push

-- all of them
pub bounds-all : (low high i : ℕ) (cs : List (Option Span)) → AreWithin low high (take i cs) → length cs ≤ i
    → AreWithin low high cs
bounds-all low high i cs k ge = subst (λ (xs : List (Option Span)). AreWithin low high xs) (take_all i cs ge) k

one_above : (low high start size : ℕ) (c : Option Span) → IsWithin low high c → high ≤ start
    → overlaps_claim (record { start = start; size = size }) c ≡ false
one_above low high start size None h g = refl
one_above low high start size (Some s) h g =
    and_left _ _ (and_right _ _ (le-ltb start (s.start + s.size) (omega arith)))

one_below : (low high start size : ℕ) (c : Option Span) → IsWithin low high c → start + size ≤ low
    → overlaps_claim (record { start = start; size = size }) c ≡ false
one_below low high start size None h g = refl
one_below low high start size (Some s) h g = and_right _ _ (le-ltb s.start (start + size) (omega arith))

-- a span outside the bounds meets no claim
pub outside : (low high start size : ℕ) (cs : List (Option Span)) → AreWithin low high cs → (high ≤ start)
    ⊎ (start + size ≤ low)
    → list_any (overlaps_claim (record { start = start; size = size })) cs ≡ false
outside low high start size cs h (inl g) = list_any_none _ cs (λ k d lt. one_above low high start size _ (h k d lt) g)
outside low high start size cs h (inr g) = list_any_none _ cs (λ k d lt. one_below low high start size _ (h k d lt) g)

-- a span with a byte meets the bounds of what is claimed where it overlaps it
meets_one : (start size : ℕ) (c : Option Span) → 0 < size
    → meets start (start + size) (bounds_of c) ≡ overlaps_claim (record { start = start; size = size }) c
meets_one start size None some = and_left _ _ (le-ltb start 0 (omega arith))
meets_one start size (Some s) some =
    let has : nat_lt 0 size ≡ true = lt-ltb 0 size some in
    elim (cases_eq s.size 0) [
      | inl e ↦ rw (e, has) (and_left _ _ (le-ltb start 0 (omega arith)))
      | inr n ↦ rw (ne_eqb s.size 0 n, has, lt-ltb 0 s.size (omega (arith, n))) refl
    ]

pub meets_any : (start size : ℕ) (cs : List (Option Span)) → 0 < size
    → list_any (meets start (start + size)) (map bounds_of cs)
    ≡ list_any (overlaps_claim (record { start = start; size = size })) cs
meets_any start size [] some = refl
meets_any start size (c ∷ cs) some = rw (meets_one start size c some, meets_any start size cs some) refl

-- a span without bytes overlaps nothing
no_byte : (start size : ℕ) (c : Option Span) → size ≤ 0
    → overlaps_claim (record { start = start; size = size }) c ≡ false
no_byte start size None none = refl
no_byte start size (Some s) none = rw (le-ltb 0 size none) refl

pub no_byte_overlaps : (start size : ℕ) (cs : List (Option Span)) → size ≤ 0
    → list_any (overlaps_claim (record { start = start; size = size })) cs ≡ false
no_byte_overlaps start size cs none = list_any_none _ cs (λ k d lt. no_byte start size _ none)
