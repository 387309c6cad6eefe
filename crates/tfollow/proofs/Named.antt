-- Names keep their numbers and their berths where another one comes.
use Rattle.std.proofs.Common.{◌≡◌, ℕ, suc, ◌<◌, refl, sym, ap, ◌∙◌, inl, inr, arith, Bool, true, false, List, []}
use Rattle.std.proofs.Common.{◌∷◌, ◌++◌, length, Option, Some, None, slice_index}
use Rattle.std.specs.Prelude.{if◌then◌else◌}
use Rattle.std.proofs.lemmas.List.{length-append}
use Rattle.tclocks.proofs.Lists.{test}
use Rattle.tprocesses.specs.Places.{Name, Standing, same_name}
use Rattle.tfollow.specs.Lodging.{number_of_name, IsNewName, IsListed, berth_among}
use Rattle.tfollow.proofs.Growing.{at-end, before-end}
use Rattle.tfollow.proofs.Numbered.{some_plan, told}

name-same : (x : Name) → same_name x x ≡ true
name-same x =
    elim (test (same_name x x)) as (λ _. same_name x x ≡ true) [
      | inl same ↦ same
      | inr differ ↦ absurd ((told some_plan).not_same_place (Standing x) (Standing x) differ refl)
    ]

-- a name that is listed keeps its number where another one comes
name-kept : (names : List Name) (x y : Name) → number_of_name names y < length names
    → number_of_name (names ++ x ∷ []) y ≡ number_of_name names y
name-kept [] x y h = absurd (omega (arith, h))
name-kept (z ∷ zs) x y h = by (same_name z y) (name-kept zs x y) h
  where
    by : (t : Bool)
        → (number_of_name zs y < length zs → number_of_name (zs ++ x ∷ []) y ≡ number_of_name zs y)
        → (if t then 0 else suc (number_of_name zs y)) < length (z ∷ zs)
        → (if t then 0 else suc (number_of_name (zs ++ x ∷ []) y)) ≡ (if t then 0 else suc (number_of_name zs y))
    by true rest h = refl
    by false rest h = ap suc (rest (omega (arith, h)))

-- and this one has the number behind all others
pub name-last : (names : List Name) (x : Name) → IsNewName names x
    → number_of_name (names ++ x ∷ []) x ≡ length names
name-last [] x new = ap (λ (t : Bool). if t then 0 else suc 0) (name-same x)
name-last (z ∷ zs) x new = by (same_name z x) (name-last zs x) new
  where
    by : (t : Bool) → (number_of_name zs x ≡ length zs → number_of_name (zs ++ x ∷ []) x ≡ length zs)
        → (if t then 0 else suc (number_of_name zs x)) ≡ length (z ∷ zs)
        → (if t then 0 else suc (number_of_name (zs ++ x ∷ []) x)) ≡ length (z ∷ zs)
    by true rest e = absurd (omega (arith, e))
    by false rest e = let last : number_of_name (zs ++ x ∷ []) x ≡ length zs = rest (omega (arith, e)) in
        omega (arith, last)

module _ (names : List Name) (homes : List ℕ) (housed : length homes ≡ length names) (x : Name) (k : ℕ) where
  -- who is listed is listed still, and has the same berth
  pub lodger-kept : (l : Option Name) → IsListed names l
      → IsListed (names ++ x ∷ []) l × (berth_among (names ++ x ∷ []) (homes ++ k ∷ []) l ≡ berth_among names homes l)
  lodger-kept None h = absurd h
  lodger-kept (Some y) h =
      let same : number_of_name (names ++ x ∷ []) y ≡ number_of_name names y = name-kept names x y h in (
        omega (arith, h, same, length-append names (x ∷ [])),
        ap (λ (i : ℕ). slice_index (homes ++ k ∷ []) i) same
            ∙ before-end homes k 0 (number_of_name names y) (omega (arith, h, housed)),
      )

  -- the one that comes has the berth that came with it
  pub berth-last : IsNewName names x → berth_among (names ++ x ∷ []) (homes ++ k ∷ []) (Some x) ≡ k
  berth-last new =
      ap (λ (i : ℕ). slice_index (homes ++ k ∷ []) i) (name-last names x new ∙ sym housed) ∙ at-end homes k 0
