-- Lists in two parts: what is counted in them, and where an element is.
use Rattle.std.proofs.Common.{ℕ, ◌+◌, ◌≡◌, refl, sym, ap, ◌∙◌, Bool, cond, List, [], ◌∷◌, ◌++◌, ◌⊎◌, inl, inr, reverse}
use Rattle.std.specs.List.{count_by}
use Rattle.std.proofs.lemmas.List.{append_assoc, reverse-append}
use Rattle.std.proofs.lemmas.List.Sums.{sum_by-cons, sum_by-append}

-- one that is counted, or none
abbrev pub one_if : Bool → ℕ
one_if b = cond b 1 0

pub count_front : {X : Type 0} (p : X → Bool) (x : X) (xs : List X)
    → count_by p (x ∷ xs) ≡ one_if (p x) + count_by p xs
count_front p x xs = sum_by-cons (λ y. cond (p y) 1 0) x xs

pub count_both : {X : Type 0} (p : X → Bool) (xs ys : List X)
    → count_by p (xs ++ ys) ≡ count_by p xs + count_by p ys
count_both p xs ys = sum_by-append (λ y. cond (p y) 1 0) xs ys

pub count_within : {X : Type 0} (p : X → Bool) (xs : List X) (x : X) (ys : List X)
    → count_by p (xs ++ x ∷ ys) ≡ count_by p xs + (one_if (p x) + count_by p ys)
count_within p xs x ys = count_both p xs (x ∷ ys) ∙ ap (λ n. count_by p xs + n) (count_front p x ys)

-- an element of a list of two parts is in the first or the second
pub record IsInFirst {X : Type 0} (xs before : List X) (x : X) : Type 0 where
  pub after : List X
  pub are : xs ≡ before ++ x ∷ after

pub record IsInSecond {X : Type 0} (xs ys before after : List X) (x : X) : Type 0 where
  pub between : List X
  pub before_it : before ≡ xs ++ between
  pub are : ys ≡ between ++ x ∷ after

pub part_of : {X : Type 0} (xs ys before after : List X) (x : X) → xs ++ ys ≡ before ++ x ∷ after
    → IsInFirst xs before x ⊎ IsInSecond xs ys before after x
part_of [] ys before after x q = inr (record { between = before; before_it = refl; are = q })
part_of (z ∷ zs) ys [] after x q =
    let head : z ≡ x = cc in
    inl (record { after = zs; are = ap (λ y. y ∷ zs) head })
part_of (z ∷ zs) ys (w ∷ before) after x q =
    let head : z ≡ w = cc in
    let tail : zs ++ ys ≡ before ++ x ∷ after = cc in
    elim (part_of zs ys before after x tail)
    as (λ _. IsInFirst (z ∷ zs) (w ∷ before) x ⊎ IsInSecond (z ∷ zs) ys (w ∷ before) after x) [
      | inl first ↦ inl (record {
        after = first.after;
        are = let a : zs ≡ before ++ x ∷ first.after = first.are in cc;
      })
      | inr second ↦ inr (record {
        between = second.between;
        before_it = let a : before ≡ zs ++ second.between = second.before_it in cc;
        are = second.are;
      })
    ]

-- none has no element
pub no_place : {X : Type 0} (x : X) (before after : List X) → [] ≡ before ++ x ∷ after → ⊥
no_place x [] after q = cc
no_place x (z ∷ zs) after q = cc

-- an element goes over to the list that is turned
pub turned : {X : Type 0} (x : X) (xs ys : List X) → reverse xs ++ x ∷ ys ≡ reverse (x ∷ xs) ++ ys
turned x xs ys =
    sym (ap (λ zs. zs ++ ys) (reverse-append (x ∷ []) xs) ∙ append_assoc (reverse xs) (x ∷ []) ys)
