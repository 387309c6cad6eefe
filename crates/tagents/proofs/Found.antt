-- What tests of lists tell: of which elements they speak.
use Rattle.std.proofs.Common.{◌≡◌, sym, Bool, true, false, List, [], ◌∷◌, ◌++◌, inl, inr, true≢false}
use Rattle.std.proofs.lemmas.Bool.{and_parts, and_from, or_parts, or_cases, or_left, or_right}
use Rattle.std.specs.List.{list_any, list_all}
use Rattle.tagents.specs.Tidy.{IsOneOf, HoldsOfEach}

-- one that passes a test
pub record IsFound {X : Type 0} (test : X → Bool) (xs : List X) : Type 0 where
  pub element : X
  pub within : IsOneOf element xs
  pub passes : test element ≡ true

-- a test that some element passes has one
pub found : {X : Type 0} (test : X → Bool) (xs : List X) → list_any test xs ≡ true → IsFound test xs
found test [] h = absurd (true≢false (sym h))
found test (x ∷ xs) h =
    elim (or_cases (test x) (list_any test xs) h) as (λ _. IsFound test (x ∷ xs)) [
      | inl here ↦ record { element = x; within = inl (λ i. x); passes = here }
      | inr there ↦ (let f : IsFound test xs = found test xs there in
          record { element = f.element; within = inr f.within; passes = f.passes })
    ]

pub from_found : {X : Type 0} (test : X → Bool) (x : X) (xs : List X) → IsOneOf x xs → test x ≡ true
    → list_any test xs ≡ true
from_found test x [] one h = absurd one
from_found test x (y ∷ ys) (inl here) h = or_left (test y) (list_any test ys) (rw here h)
from_found test x (y ∷ ys) (inr there) h = or_right (test y) (list_any test ys) (from_found test x ys there h)

-- where none passes, each fails
pub each_fails : {X : Type 0} (test : X → Bool) (xs : List X) → list_any test xs ≡ false
    → HoldsOfEach (λ x. test x ≡ false) xs
each_fails test [] h = tt
each_fails test (x ∷ xs) h =
    let k : (test x ≡ false) × (list_any test xs ≡ false) = or_parts (test x) (list_any test xs) h in
    (k.0, each_fails test xs k.1)

-- what holds of each holds of one of them
pub at_one : {X : Type 0} (P : X → Type 0) (x : X) (xs : List X) → HoldsOfEach P xs → IsOneOf x xs → P x
at_one P x [] h one = absurd one
at_one P x (y ∷ ys) h (inl here) = rw here at h.0
at_one P x (y ∷ ys) h (inr there) = at_one P x ys h.1 there

-- what holds of each, by what it is
pub of_each : {X : Type 0} (P : X → Type 0) (xs : List X) → ((x : X) → IsOneOf x xs → P x) → HoldsOfEach P xs
of_each P [] h = tt
of_each P (x ∷ xs) h = (h x (inl (λ i. x)), of_each P xs (λ y k. h y (inr k)))

-- where all pass, each does, and the other way round
pub each_passes : {X : Type 0} (test : X → Bool) (xs : List X) → list_all test xs ≡ true
    → HoldsOfEach (λ x. test x ≡ true) xs
each_passes test [] h = tt
each_passes test (x ∷ xs) h =
    let k : (test x ≡ true) × (list_all test xs ≡ true) = and_parts (test x) (list_all test xs) h in
    (k.0, each_passes test xs k.1)

pub all_pass : {X : Type 0} (test : X → Bool) (xs : List X) → HoldsOfEach (λ x. test x ≡ true) xs
    → list_all test xs ≡ true
all_pass test [] h = λ i. true
all_pass test (x ∷ xs) h = and_from (test x) (list_all test xs) h.0 (all_pass test xs h.1)

-- what holds of each of two lists, one after the other
pub both_parts : {X : Type 0} (P : X → Type 0) (xs ys : List X) → HoldsOfEach P (xs ++ ys)
    → HoldsOfEach P xs × HoldsOfEach P ys
both_parts P [] ys h = (tt, h)
both_parts P (x ∷ xs) ys h =
    let k : HoldsOfEach P xs × HoldsOfEach P ys = both_parts P xs ys h.1 in
    ((h.0, k.0), k.1)

pub from_parts : {X : Type 0} (P : X → Type 0) (xs ys : List X) → HoldsOfEach P xs → HoldsOfEach P ys
    → HoldsOfEach P (xs ++ ys)
from_parts P [] ys h k = k
from_parts P (x ∷ xs) ys h k = (h.0, from_parts P xs ys h.1 k)
