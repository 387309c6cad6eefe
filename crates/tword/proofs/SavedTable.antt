-- The list of saved workspaces: what is left of it where one comes or goes.
use Rattle.std.proofs.Common.{◌≡◌, ℕ, ◌+◌, ◌<◌, ◌≤◌, Bool, true, false, cond, eqb, ltb, ◌||◌, ◌&&◌, not, ◌++◌, inl, inr}
use Rattle.std.proofs.Common.{List, [], ◌∷◌, length, get_or, reverse, refl, sym, ap, ◌∙◌, arith, eq-eqb}
use Rattle.std.specs.Prelude.{Option, Some, None, is_some, IfSome}
use Rattle.std.proofs.lemmas.Bool.{le-ltb, lt-ltb, ltb-false, ne_eqb, cases_eq, false≢true, and_from}
use Rattle.std.proofs.lemmas.List.Folds.{list_any_none, list_any_at}
use Rattle.std.proofs.lemmas.List.Sums.{sum_by-cons, sum_by_push, sum_by-swap_remove}
use Rattle.std.proofs.lemmas.List.{get_or_read, length_push, length-reverse, reverse-reverse}
use Rattle.std.proofs.lemmas.List.Sorted.{IsPermutation-reverse, list_any-IsPermutation, sum_by-IsPermutation}
use Rattle.std.specs.List.{list_any, sum_by, count_by, swap_remove}
use Rattle.tword.specs.Words.{word_below}
use Rattle.tword.specs.Claims.{overlap, saved_words}
use Rattle.tword.specs.Limits.{most_processes}
use Rattle.tword.specs.Slots.{IsPlaceIn, AreOnce}

-- a list and its reverse pass a test alike
pub any-reverse : (p : ℕ → Bool) (xs : List ℕ) → list_any p (reverse xs) ≡ list_any p xs
any-reverse p xs = sym (list_any-IsPermutation p xs (reverse xs) (IsPermutation-reverse xs))

-- and has the same sums
pub sum-reverse : (f : ℕ → ℕ) (xs : List ℕ) → sum_by f (reverse xs) ≡ sum_by f xs
sum-reverse f xs = sum_by-IsPermutation f xs (reverse xs) (IsPermutation-reverse xs)

abbrev one_if : Bool → ℕ
one_if b = cond b 1 0

-- a test is passed by some item where at least one is counted
any_count : (p : ℕ → Bool) (xs : List ℕ) → list_any p xs ≡ ltb 0 (count_by p xs)
any_count p [] = refl
any_count p (x ∷ xs) =
    rw (sum_by-cons (λ y. one_if (p y)) x xs)
    (elim (p x) as (λ b. (b || list_any p xs) ≡ ltb 0 (one_if b + count_by p xs)) [
      | true ↦ sym (lt-ltb 0 _ (omega arith))
      | false ↦ any_count p xs ∙ ap (ltb 0) (omega arith)
    ])

-- a workspace whose saved words meet none of a list is not in it
absent : (ws : List ℕ) (w : ℕ) → list_any (λ v. overlap (saved_words w) (saved_words v)) ws ≡ false
    → list_any (λ v. eqb v w) ws ≡ false
absent ws w apart =
    list_any_none (λ v. eqb v w) ws (λ i d lt. ne_eqb (get_or ws i d) w (λ e.
    let met : overlap (saved_words w) (saved_words (get_or ws i d)) ≡ true =
    rw e (and_from _ _ (lt-ltb (word_below w 3) (word_below w 3 + 12) (omega arith))
    (lt-ltb (word_below w 3) (word_below w 3 + 12) (omega arith))) in
    false≢true (sym apart ∙ list_any_at (λ v. overlap (saved_words w) (saved_words v)) ws i d lt met)))

count_absent : (ws : List ℕ) (w : ℕ) → list_any (λ y. eqb y w) ws ≡ false → count_by (λ y. eqb y w) ws ≡ 0
count_absent ws w none =
    let low = ltb-false 0 _ (sym (any_count (λ y. eqb y w) ws) ∙ none) in
    omega (arith, low)

-- the list with one more workspace
pub once_push : (ws : List ℕ) (w : ℕ) → AreOnce ws
    → list_any (λ v. overlap (saved_words w) (saved_words v)) (reverse ws) ≡ false → length ws < most_processes
    → AreOnce (ws ++ w ∷ [])
once_push ws w is apart room =
    record {
      once = λ v.
          let total = sum_by_push (λ x. one_if (eqb x v)) ws w in
          let before = is.once v in
          elim (cases_eq w v) [
            | inl e ↦ let zero = count_absent ws v (sym (ap (λ u. list_any (λ y. eqb y u) ws) e) ∙ none) in
                let le : one_if (eqb w v) ≤ 1 =
                elim (eqb w v) as (λ b. one_if b ≤ 1) [ true ↦ omega arith | false ↦ omega arith ] in
                omega (arith, total, zero, le)
            | inr n ↦ let z : one_if (eqb w v) ≡ 0 = ap (λ b. one_if b) (ne_eqb w v n) in
                omega (arith, total, before, z)
          ];
      few = omega (arith, length_push ws w);
    }
  where
    none : list_any (λ y. eqb y w) ws ≡ false
    none = absent ws w (sym (any-reverse (λ v. overlap (saved_words w) (saved_words v)) ws) ∙ apart)

-- the list with one workspace less
pub once_swap_remove : (ws : List ℕ) (i d : ℕ) → AreOnce ws → i < length ws
    → length (swap_remove ws i d) + 1 ≡ length ws → AreOnce (swap_remove ws i d)
once_swap_remove ws i d is lt shorter =
    record {
      once = λ v. let total = sum_by-swap_remove (λ x. one_if (eqb x v)) ws i d lt in omega (arith, total, is.once v);
      few = omega (arith, is.few);
    }

-- which workspaces are left after one went
pub any-swap_remove : (ws : List ℕ) (i d w v : ℕ) → ((u : ℕ) → count_by (λ x. eqb x u) ws ≤ 1) → i < length ws
    → d ≡ get_or ws i d → get_or ws i 0 ≡ w
    → list_any (λ x. eqb x v) (swap_remove ws i d) ≡ (not (eqb v w) && list_any (λ x. eqb x v) ws)
any-swap_remove ws i d w v once lt read same =
    let at : get_or ws i d ≡ w = sym read ∙ get_or_read ws i d lt read 0 ∙ same in
    let total = sum_by-swap_remove (λ x. one_if (eqb x v)) ws i d lt in
    let e : one_if (eqb (get_or ws i d) v) ≡ one_if (eqb w v) = ap (λ u. one_if (eqb u v)) at in
    elim (cases_eq v w) [
      | inl s ↦
          let yes : one_if (eqb w v) ≡ 1 = ap (λ b. one_if b) (eq-eqb w v (sym s)) in
          any_count (λ y. eqb y v) (swap_remove ws i d) ∙ le-ltb 0 _ (omega (arith, total, e, yes, once v))
          ∙ ap (λ b. not b && list_any (λ y. eqb y v) ws) (sym (eq-eqb v w s))
      | inr n ↦
          let no : one_if (eqb w v) ≡ 0 = ap (λ b. one_if b) (ne_eqb w v (λ z. n (sym z))) in
          any_count (λ y. eqb y v) (swap_remove ws i d) ∙ ap (ltb 0) (omega (arith, total, e, no))
          ∙ sym (any_count (λ y. eqb y v) ws) ∙ ap (λ b. not b && list_any (λ y. eqb y v) ws) (sym (ne_eqb v w n))
    ]

-- where a workspace stands in the list, as its reverse is seen
pub placed : (ws saved : List ℕ) (i w : ℕ) → reverse ws ≡ saved → IsPlaceIn saved i w → (i < length ws)
    × (get_or ws i 0 ≡ w)
placed ws saved i w e h =
    let back : reverse saved ≡ ws = ap (λ (xs : List ℕ). reverse xs) (sym e) ∙ reverse-reverse ws in
    let size : length saved ≡ length ws = ap (λ (xs : List ℕ). length xs) (sym e) ∙ length-reverse ws in
    (omega (arith, h.0, size), rw (← back) h.1)

pub is_placed : (ws saved : List ℕ) (i w : ℕ) → reverse ws ≡ saved → i < length ws → get_or ws i 0 ≡ w
    → IsPlaceIn saved i w
is_placed ws saved i w e lt at =
    let back : reverse saved ≡ ws = ap (λ (xs : List ℕ). reverse xs) (sym e) ∙ reverse-reverse ws in
    let size : length saved ≡ length ws = ap (λ (xs : List ℕ). length xs) (sym e) ∙ length-reverse ws in
    (omega (arith, lt, size), rw back at)

-- no workspaces
pub once_none : (ws : List ℕ) → ws ≡ [] → AreOnce ws
once_none ws e = rw e (record {
  once = λ w. omega arith;
  few = omega arith;
})

-- a workspace that has a place is in the list
pub place_has : (saved : List ℕ) (i w : ℕ) → IsPlaceIn saved i w → list_any (λ v. eqb v w) saved ≡ true
place_has saved i w found =
    let lt : i < length (reverse saved) = omega (arith, found.0, length-reverse saved) in
    sym (any-reverse (λ v. eqb v w) saved) ∙ list_any_at (λ v. eqb v w) (reverse saved) i 0 lt (eq-eqb _ _ found.1)

-- whether a workspace is in the list, by where it was found
pub found_any : (r : Option ℕ) (b : Bool) (saved : List ℕ) (w : ℕ) → b ≡ is_some r → IfSome r (λ i. IsPlaceIn saved i w)
    → (r ≡ None → list_any (λ v. eqb v w) saved ≡ false) → b ≡ list_any (λ v. eqb v w) saved
found_any None b saved w e found none = e ∙ sym (none refl)
found_any (Some i) b saved w e found none = e ∙ sym (place_has saved i w found)
