-- Facts on each or one of a list, and what lists contain.
use Rattle.std.proofs.Common.{◌≡◌, ◌⊎◌, inl, inr, Bool, true, false, cond, List, [], ◌∷◌, suc, zero, ap, refl, sym, ◌∙◌}
use Rattle.std.proofs.Common.{arith, None, Some, find, Contains, ℕ, ◌<◌, ◌≤◌, length, get_or}
use Rattle.tclocks.specs.Followed.{EachOf, OneOf}

pub each-more : {A : Type 0} (P Q : A → Type 0) → ((x : A) → P x → Q x) → (xs : List A) → EachOf P xs → EachOf Q xs
each-more P Q f [] h = tt
each-more P Q f (x ∷ xs) h = (f x h.0, each-more P Q f xs h.1)

pub each-both : {A : Type 0} (P Q : A → Type 0) (xs : List A) → EachOf P xs → EachOf Q xs → EachOf (λ x. P x × Q x) xs
each-both P Q [] h g = tt
each-both P Q (x ∷ xs) h g = ((h.0, g.0), each-both P Q xs h.1 g.1)

pub one-more : {A : Type 0} (P Q : A → Type 0) → ((x : A) → P x → Q x) → (xs : List A) → OneOf P xs → OneOf Q xs
one-more P Q f [] h = absurd h
one-more P Q f (x ∷ xs) (inl h) = inl (f x h)
one-more P Q f (x ∷ xs) (inr h) = inr (one-more P Q f xs h)

-- one of a list, of each of which more is known
pub one-each : {A : Type 0} (P Q : A → Type 0) (xs : List A) → EachOf P xs → OneOf Q xs → OneOf (λ x. P x × Q x) xs
one-each P Q [] h g = absurd g
one-each P Q (x ∷ xs) h (inl g) = inl (h.0, g)
one-each P Q (x ∷ xs) h (inr g) = inr (one-each P Q xs h.1 g)

-- what a list contains is its first element or one of the others
pub contains-cons : {A : Type 0} (x : A) (xs : List A) (y : A) → Contains (x ∷ xs) y → (x ≡ y) ⊎ Contains xs y
contains-cons x xs y (zero, h, e) = inl e
contains-cons x xs y (suc k, h, e) = inr (k, omega (arith, h), e)

pub contains-first : {A : Type 0} (x : A) (xs : List A) → Contains (x ∷ xs) x
contains-first x xs = (0, omega arith, refl)

pub contains-rest : {A : Type 0} (x : A) (xs : List A) (y : A) → Contains xs y → Contains (x ∷ xs) y
contains-rest x xs y (k, h, e) = (suc k, omega (arith, h), e)

-- a bool is one or the other
pub test : (b : Bool) → (b ≡ true) ⊎ (b ≡ false)
test true = inl refl
test false = inr refl

-- where none is found, each fails the test
pub found-none : {A : Type 0} (p : A → Bool) (xs : List A) (y : A) → find p xs ≡ None → Contains xs y → p y ≡ false
found-none p [] y none has = absurd (omega (arith, has.1))
found-none p (x ∷ xs) y none has =
    elim (test (p x)) as (λ _. p y ≡ false) [
      | inl pass ↦ absurd (some-none x (sym (ap (λ (b : Bool). cond b (Some x) (find p xs)) pass) ∙ none))
      | inr fail ↦ elim (contains-cons x xs y has) as (λ _. p y ≡ false) [
        | inl e ↦ ap p (sym e) ∙ fail
        | inr rest ↦ found-none p xs y (sym (ap (λ (b : Bool). cond b (Some x) (find p xs)) fail) ∙ none) rest
      ]
    ]
  where
    some-none : {A : Type 0} (x : A) → Some x ≡ None → ⊥
    some-none x e = cc

-- what is behind the end of a list
pub past-end : {A : Type 0} (xs : List A) (i : ℕ) (d : A) → length xs ≤ i → get_or xs i d ≡ d
past-end [] i d h = refl
past-end (x ∷ xs) zero d h = absurd (omega (arith, h))
past-end (x ∷ xs) (suc i) d h = past-end xs i d (omega (arith, h))

pub below-or-not : (i n : ℕ) → (i < n) ⊎ (n ≤ i)
below-or-not i n = grind arith
