-- Lists of what is wrong that are empty.
use Rattle.std.proofs.Common.{◌≡◌, ℕ, zero, suc, ◌+◌, ◌<◌, refl, subst, List, [], ◌∷◌, ◌++◌, length, get_or, map}
use Rattle.std.proofs.Common.{Bool, true, false, All, arith, add-zero}
use Rattle.std.specs.Prelude.{if◌then◌else◌}
use Rattle.tcheck.specs.declared.flaws.Place.{Place}
use Rattle.tcheck.specs.declared.flaws.Flaw.{Flaw}
use Rattle.tcheck.specs.declared.flaws.Wrong.{Wrong}
use Rattle.tcheck.specs.Wrongs.{each_from, wrong_if}

pub both_nil : {A : Type 0} (xs ys : List A) → xs ++ ys ≡ [] → (xs ≡ []) × (ys ≡ [])
both_nil [] ys h = (refl, h)
both_nil (x ∷ xs) ys h = cc

pub nil_both : {A : Type 0} (xs ys : List A) → xs ≡ [] → ys ≡ [] → xs ++ ys ≡ []
nil_both xs ys p q = rw (p, q) refl

pub if_nil : (b : Bool) (p : Place) (f : Flaw) → wrong_if b p f ≡ [] → b ≡ false
if_nil false p f h = refl
if_nil true p f h = cc

pub nil_if : (b : Bool) (p : Place) (f : Flaw) → b ≡ false → wrong_if b p f ≡ []
nil_if b p f h = rw h refl

-- one of two
pub else_nil : (b : Bool) (x : Wrong) (ys : List Wrong) → (if b then x ∷ [] else ys) ≡ [] → (b ≡ false) × (ys ≡ [])
else_nil false x ys h = (refl, h)
else_nil true x ys h = cc

pub nil_else : (b : Bool) (x : Wrong) (ys : List Wrong) → b ≡ false → ys ≡ [] → (if b then x ∷ [] else ys) ≡ []
nil_else b x ys p q = rw p q

module _ {A : Type 0} (f : ℕ → A → List Wrong) where
  -- nothing is wrong with any element, by its number
  pub each_at : (k : ℕ) (xs : List A) → each_from f k xs ≡ [] → (j : ℕ) (d : A) → j < length xs
      → f (k + j) (get_or xs j d) ≡ []
  each_at k [] h j d l = absurd (omega (arith, l))
  each_at k (x ∷ xs) h zero d l = rw add-zero (both_nil _ _ h).0
  each_at k (x ∷ xs) h (suc j) d l =
      let e : k + suc j ≡ suc k + j = omega arith in
      rw e (each_at (suc k) xs (both_nil _ _ h).1 j d (omega (arith, l)))

  pub at_each : (k : ℕ) (xs : List A) → ((j : ℕ) (d : A) → j < length xs → f (k + j) (get_or xs j d) ≡ [])
      → each_from f k xs ≡ []
  at_each k [] h = refl
  at_each k (x ∷ xs) h =
      nil_both _ _ (subst (λ (n : ℕ). f n x ≡ []) (add-zero k) (h 0 x (omega arith)))
      (at_each (suc k) xs (λ j d l.
      let e : k + suc j ≡ suc k + j = omega arith in
      subst (λ (n : ℕ). f n (get_or xs j d) ≡ []) e (h (suc j) d (omega (arith, l)))))

  -- nothing is wrong with any element
  pub each_all : (P : A → Type 0) → ((k : ℕ) (x : A) → f k x ≡ [] → P x) → (k : ℕ) (xs : List A)
      → each_from f k xs ≡ [] → All P xs
  each_all P h k [] e j d l = absurd (omega (arith, l))
  each_all P h k (x ∷ xs) e zero d l = h k x (both_nil _ _ e).0
  each_all P h k (x ∷ xs) e (suc j) d l = each_all P h (suc k) xs (both_nil _ _ e).1 j d (omega (arith, l))

  pub all_each : (P : A → Type 0) → ((k : ℕ) (x : A) → P x → f k x ≡ []) → (k : ℕ) (xs : List A)
      → All P xs → each_from f k xs ≡ []
  all_each P h k [] a = refl
  all_each P h k (x ∷ xs) a =
      nil_both _ _ (h k x (a 0 x (omega arith)))
      (all_each P h (suc k) xs (λ j d l. a (suc j) d (omega (arith, l))))

-- what holds of each of a list that is made of others
pub all_map : {A B : Type 0} (f : A → B) (P : B → Type 0) (xs : List A) → All (λ x. P (f x)) xs → All P (map f xs)
all_map f P [] h k d l = absurd (omega (arith, l))
all_map f P (x ∷ xs) h zero d l = h 0 x (omega arith)
all_map f P (x ∷ xs) h (suc k) d l = all_map f P xs (λ j e m. h (suc j) e (omega (arith, m))) k d (omega (arith, l))

pub map_all : {A B : Type 0} (f : A → B) (P : B → Type 0) (xs : List A) → All P (map f xs) → All (λ x. P (f x)) xs
map_all f P [] h k d l = absurd (omega (arith, l))
map_all f P (x ∷ xs) h zero d l = h 0 (f d) (omega arith)
map_all f P (x ∷ xs) h (suc k) d l = map_all f P xs (λ j e m. h (suc j) e (omega (arith, m))) k d (omega (arith, l))

pub all_append : {A : Type 0} (P : A → Type 0) (xs ys : List A) → All P xs → All P ys → All P (xs ++ ys)
all_append P [] ys g h k d l = h k d l
all_append P (x ∷ xs) ys g h zero d l = g 0 d (omega arith)
all_append P (x ∷ xs) ys g h (suc k) d l =
    all_append P xs ys (λ j e m. g (suc j) e (omega (arith, m))) h k d (omega (arith, l))

pub all_left : {A : Type 0} (P : A → Type 0) (xs ys : List A) → All P (xs ++ ys) → All P xs
all_left P [] ys h k d l = absurd (omega (arith, l))
all_left P (x ∷ xs) ys h zero d l = h 0 d (omega arith)
all_left P (x ∷ xs) ys h (suc k) d l =
    all_left P xs ys (λ j e m. h (suc j) e (omega (arith, m))) k d (omega (arith, l))

pub all_right : {A : Type 0} (P : A → Type 0) (xs ys : List A) → All P (xs ++ ys) → All P ys
all_right P [] ys h = h
all_right P (x ∷ xs) ys h = all_right P xs ys (λ j d l. h (suc j) d (omega (arith, l)))
