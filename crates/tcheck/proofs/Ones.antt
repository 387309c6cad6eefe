-- Lists of what is wrong that have one thing.
use Rattle.std.proofs.Common.{◌≡◌, ℕ, zero, suc, ◌+◌, ◌<◌, ◌⊎◌, inl, inr, refl, sym, ap, ◌∙◌, subst, List, [], ◌∷◌}
use Rattle.std.proofs.Common.{◌++◌, length}
use Rattle.std.proofs.Common.{get_or, map, Bool, true, false, Some, arith, add-zero, zero-add}
use Rattle.std.specs.Prelude.{Any, position, if◌then◌else◌}
use Rattle.std.specs.List.{list_any}
use Rattle.std.proofs.lemmas.List.Folds.{Any-from_list_any}
use Rattle.std.proofs.lemmas.List.Quantifiers.{position-Some}
use Rattle.tcheck.specs.declared.flaws.Place.{Place}
use Rattle.tcheck.specs.declared.flaws.Flaw.{Flaw}
use Rattle.tcheck.specs.declared.flaws.Wrong.{Wrong}
use Rattle.tcheck.specs.Wrongs.{each_from, wrong, wrong_if}

-- ---- the element at a place

-- the element at a place passes a test
pub record PassesAt {A : Type 0} (test : A → Bool) (xs : List A) (k : ℕ) : Type 0 where
  pub other : A
  pub within : k < length xs
  pub passes : test (get_or xs k other) ≡ true

pub at_position : {A : Type 0} (test : A → Bool) (xs : List A) (k : ℕ) → position test xs ≡ Some k → PassesAt test xs k
at_position test [] k h = cc
at_position test (x ∷ xs) k h =
    let first = position-Some test (x ∷ xs) k x h in
    record { other = x; within = first.0; passes = first.1 }

-- a place of one that passes
pub record SomePasses {A : Type 0} (test : A → Bool) (xs : List A) : Type 0 where
  pub number : ℕ
  pub here : PassesAt test xs number

pub some_passes : {A : Type 0} (test : A → Bool) (xs : List A) → list_any test xs ≡ true → SomePasses test xs
some_passes test xs h =
    let a : Any (λ x. test x ≡ true) xs = Any-from_list_any test xs h in
    record {
      number = a.0;
      here = record { other = a.1; within = a.2; passes = ap test a.3 ∙ a.4 };
    }

-- the element at a place of two lists is one of the first, or one of the second
pub record PassesBehind {A : Type 0} (test : A → Bool) (xs ys : List A) (k : ℕ) : Type 0 where
  pub number : ℕ
  pub is : k ≡ length xs + number
  pub here : PassesAt test ys number

one_later : {A : Type 0} (test : A → Bool) (x : A) (xs ys : List A) (k : ℕ)
    → (PassesAt test xs k) ⊎ (PassesBehind test xs ys k)
    → (PassesAt test (x ∷ xs) (suc k)) ⊎ (PassesBehind test (x ∷ xs) ys (suc k))
one_later test x xs ys k (inl a) =
    inl (record { other = a.other; within = omega (arith, a.within); passes = a.passes })
one_later test x xs ys k (inr b) =
    inr (record { number = b.number; is = omega (arith, b.is); here = b.here })

pub of_two : {A : Type 0} (test : A → Bool) (xs ys : List A) (k : ℕ) → PassesAt test (xs ++ ys) k
    → (PassesAt test xs k) ⊎ (PassesBehind test xs ys k)
of_two test [] ys k a = inr (record { number = k; is = omega arith; here = a })
of_two test (x ∷ xs) ys zero a = inl (record { other = a.other; within = omega arith; passes = a.passes })
of_two test (x ∷ xs) ys (suc k) a =
    one_later test x xs ys k
    (of_two test xs ys k (record { other = a.other; within = omega (arith, a.within); passes = a.passes }))

-- the element at a place of a list that is made of another
pub of_map : {A B : Type 0} (test : B → Bool) (f : A → B) (xs : List A) (k : ℕ) → PassesAt test (map f xs) k
    → PassesAt (λ x. test (f x)) xs k
of_map test f [] k a = absurd (omega (arith, a.within))
of_map test f (x ∷ xs) zero a = record { other = x; within = omega arith; passes = a.passes }
of_map test f (x ∷ xs) (suc k) a =
    let b = of_map test f xs k
    (record { other = a.other; within = omega (arith, a.within); passes = a.passes }) in
    record { other = b.other; within = omega (arith, b.within); passes = b.passes }

-- ---- one thing that is wrong

-- one of some wrongs is so
abbrev HasOne : (Wrong → Type 0) → List Wrong → Type 0
HasOne P [] = ⊥
HasOne P (w ∷ ws) = P w ⊎ HasOne P ws

pub record Has (P : Wrong → Type 0) (ws : List Wrong) : Type 0 where
  pub one : HasOne P ws

as_any : (P : Wrong → Type 0) (ws : List Wrong) → HasOne P ws → Any P ws
as_any P [] h = absurd h
as_any P (w ∷ ws) (inl h) = (0, w, omega arith, refl, h)
as_any P (w ∷ ws) (inr h) =
    let a : Any P ws = as_any P ws h in
    (suc a.0, a.1, omega (arith, a.2), a.3, a.4)

pub any_of : (P : Wrong → Type 0) (ws : List Wrong) → Has P ws → Any P ws
any_of P ws h = as_any P ws h.one

one_left : (P : Wrong → Type 0) (vs ws : List Wrong) → HasOne P vs → HasOne P (vs ++ ws)
one_left P [] ws h = absurd h
one_left P (v ∷ vs) ws (inl h) = inl h
one_left P (v ∷ vs) ws (inr h) = inr (one_left P vs ws h)

one_right : (P : Wrong → Type 0) (vs ws : List Wrong) → HasOne P ws → HasOne P (vs ++ ws)
one_right P [] ws h = h
one_right P (v ∷ vs) ws h = inr (one_right P vs ws h)

pub has_left : (P : Wrong → Type 0) (vs ws : List Wrong) → Has P vs → Has P (vs ++ ws)
has_left P vs ws h = record { one = one_left P vs ws h.one }

pub has_right : (P : Wrong → Type 0) (vs ws : List Wrong) → Has P ws → Has P (vs ++ ws)
has_right P vs ws h = record { one = one_right P vs ws h.one }

pub has_it : (P : Wrong → Type 0) (w : Wrong) → P w → Has P (w ∷ [])
has_it P w h = record { one = inl h }

pub has_if : (P : Wrong → Type 0) (b : Bool) (at : Place) (f : Flaw) → b ≡ true → P (wrong at f)
    → Has P (wrong_if b at f)
has_if P b at f so h = rw so (has_it P (wrong at f) h)

-- one of two
pub has_then : (P : Wrong → Type 0) (b : Bool) (w : Wrong) (ws : List Wrong) → b ≡ true → P w
    → Has P (if b then w ∷ [] else ws)
has_then P b w ws so h = rw so (has_it P w h)

pub has_else : (P : Wrong → Type 0) (b : Bool) (vs ws : List Wrong) → b ≡ false → Has P ws
    → Has P (if b then vs else ws)
has_else P b vs ws so h = rw so h

has_from : {A : Type 0} (P : Wrong → Type 0) (f : ℕ → A → List Wrong) (k j : ℕ) (xs : List A) (d : A) → j < length xs
    → Has P (f (k + j) (get_or xs j d)) → Has P (each_from f k xs)
has_from P f k j [] d l h = absurd (omega (arith, l))
has_from P f k zero (x ∷ xs) d l h =
    has_left P (f k x) (each_from f (suc k) xs) (subst (λ (n : ℕ). Has P (f n x)) (add-zero k) h)
has_from P f k (suc j) (x ∷ xs) d l h =
    let e : k + suc j ≡ suc k + j = omega arith in
    has_right P (f k x) (each_from f (suc k) xs)
    (has_from P f (suc k) j xs d (omega (arith, l)) (subst (λ (n : ℕ). Has P (f n (get_or xs j d))) e h))

-- the element at a place has it
pub has_each : {A : Type 0} (P : Wrong → Type 0) (f : ℕ → A → List Wrong) (j : ℕ) (xs : List A) (d : A)
    → j < length xs → Has P (f j (get_or xs j d)) → Has P (each_from f 0 xs)
has_each P f j xs d l h =
    has_from P f 0 j xs d l (subst (λ (n : ℕ). Has P (f n (get_or xs j d))) (sym (zero-add j)) h)
