-- What is taken out of a list, and put back at its place.
use Rattle.std.proofs.Common.{◌≡◌, ◌∙◌, ℕ, suc, ◌<◌, List, ◌∷◌, ◌++◌, length, get_or, take, drop, sym, ap, subst, arith}
use Rattle.std.specs.List.{insert, remove}
use Rattle.std.proofs.lemmas.List.{length-take-le}
use Rattle.std.proofs.Math.Seq.{split_at, take-append_seam, drop-append_seam}

module _ {X : Type 0} (xs : List X) (i : ℕ) (x : X) (there : i < length xs) (here : x ≡ get_or xs i x) where
  -- what stands before it, it, and the rest
  pub around : take i xs ++ x ∷ drop (suc i) xs ≡ xs
  around = ap (λ (y : X). take i xs ++ y ∷ drop (suc i) xs) here ∙ sym (split_at xs i x there)

  long : length (take i xs) ≡ i
  long = length-take-le i xs (omega (arith, there))

  before : take i (remove xs i) ≡ take i xs
  before = subst (λ (k : ℕ). take k (remove xs i) ≡ take i xs) long (take-append_seam (take i xs) (drop (suc i) xs))

  behind : drop i (remove xs i) ≡ drop (suc i) xs
  behind = subst (λ (k : ℕ). drop k (remove xs i) ≡ drop (suc i) xs) long
      (drop-append_seam (take i xs) (drop (suc i) xs))

  pub back_again : insert (remove xs i) i x ≡ xs
  back_again = ap (λ (l : List X). l ++ x ∷ drop i (remove xs i)) before
      ∙ (ap (λ (l : List X). take i xs ++ x ∷ l) behind ∙ around)
