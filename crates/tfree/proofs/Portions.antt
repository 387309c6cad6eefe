-- How many nodes each worker gets, and its portion of a list.
use Rattle.std.proofs.Common.{◌≡◌, ℕ, ◌+◌, ◌*◌, ◌-◌, sym, ap, ◌∙◌, arith, List, map, take, drop}
use Rattle.std.specs.Prelude.{min}
use Rattle.std.proofs.lemmas.List.{drop-drop, drop-map, take-map}
use Rattle.tnet.specs.Sharing.{share}
use Rattle.tfree.specs.Rings.{portion_of}
use Rattle.tfree.specs.Opened.{first_of, owned_of}

-- one worker more
step : (n s k : ℕ) → min n ((k + 1) * s) ≡ min n (k * s) + min s (n - min n (k * s))
step n s k = let e : (k + 1) * s ≡ k * s + s = omega arith in ap (min n) e ∙ by (k * s)
  where
    by : (m : ℕ) → min n (m + s) ≡ min n m + min s (n - min n m)
    by m = omega arith

pub next_first : (n w k : ℕ) → first_of n w (k + 1) ≡ first_of n w k + min (share n w) (n - first_of n w k)
next_first n w k = step n (share n w) k

pub owned_is : (n w k : ℕ) → min (share n w) (n - first_of n w k) ≡ owned_of n w k
owned_is n w k = omega (arith, next_first n w k)

pub first_more : (n w k : ℕ) → first_of n w k + owned_of n w k ≡ first_of n w (k + 1)
first_more n w k = omega (arith, next_first n w k)

-- the portion of a list of which the first elements were given away
pub portion : {A B : Type 0} (f : A → B) (xs : List A) (whole : List B) (a b : ℕ) → map f xs ≡ drop a whole
    → map f (take b xs) ≡ portion_of a b whole
portion f xs whole a b h = sym (take-map f b xs) ∙ ap (take b) h

pub rest : {A B : Type 0} (f : A → B) (xs : List A) (whole : List B) (a b : ℕ) → map f xs ≡ drop a whole
    → map f (drop b xs) ≡ drop (a + b) whole
rest f xs whole a b h = sym (drop-map f b xs) ∙ ap (drop b) h ∙ drop-drop b a whole
