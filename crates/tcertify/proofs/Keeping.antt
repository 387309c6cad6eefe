-- Lists of things that keep their places and what they are known by.
use Rattle.std.proofs.Common.{◌≡◌, ◌≤◌, ℕ, zero, suc, refl, sym, ap, ◌∙◌, List, [], ◌∷◌, ◌++◌, length, arith, Option}
use Rattle.std.proofs.Common.{Some, None}
use Rattle.std.proofs.Common.{length-append, ◌⊎◌, inl, inr}
use Rattle.std.specs.Prelude.{map, slice_get, slice_set, option_map}
use Rattle.std.proofs.lemmas.Bool.{cases_eq}
use Rattle.std.proofs.lemmas.Option.{slice_get-map, same_Some}
use Rattle.tcertify.proofs.Places.{set_here, set_elsewhere}

-- each keeps its number and its key; more may come
pub record IsKept {X K : Type 0} (key : X → K) (xs ys : List X) : Type 0 where
  pub count : length xs ≤ length ys
  pub items : (k : ℕ) (x : X) → slice_get xs k ≡ Some x → (y : X) × (slice_get ys k ≡ Some y) × (key y ≡ key x)

pub kept_all : {X K : Type 0} (key : X → K) (xs : List X) → IsKept key xs xs
kept_all key xs = record { count = omega arith; items = λ k x e. (x, e, refl) }

pub kept_same : {X K : Type 0} (key : X → K) (xs ys : List X) → ys ≡ xs → IsKept key xs ys
kept_same key xs ys e =
    record {
      count = omega (arith, ap length e);
      items = λ k x at. (x, ap (λ (zs : List _). slice_get zs k) e ∙ at, refl);
    }

pub kept_on : {X K : Type 0} (key : X → K) (xs ys zs : List X) → IsKept key xs ys → IsKept key ys zs
    → IsKept key xs zs
kept_on key xs ys zs g h =
    record {
      count = omega (arith, g.count, h.count);
      items = λ k x at.
          let (y, there, same) = g.items k x at in let (z, further, alike) = h.items k y there in
          (z, further, alike ∙ same);
    }

pub length_set : {X : Type 0} (xs : List X) (k : ℕ) (x : X) → length (slice_set xs k x) ≡ length xs
length_set [] k x = refl
length_set (y ∷ ys) zero x = refl
length_set (y ∷ ys) (suc k) x = ap suc (length_set ys k x)

pub kept_set : {X K : Type 0} (key : X → K) (xs : List X) (i : ℕ) (x y : X) → slice_get xs i ≡ Some x → key y ≡ key x
    → IsKept key xs (slice_set xs i y)
kept_set key xs i x y there same =
    record { count = omega (arith, length_set xs i y); items = λ k z at. by k z at (cases_eq i k) }
  where
    by : (k : ℕ) (z : _) → slice_get xs k ≡ Some z → (i ≡ k) ⊎ (i ≡ k → ⊥)
        → (w : _) × (slice_get (slice_set xs i y) k ≡ Some w) × (key w ≡ key z)
    by k z at (inl e) = (
      y,
      ap (λ (n : ℕ). slice_get (slice_set xs i y) n) (sym e) ∙ set_here xs i y x there,
      same ∙ ap key (same_Some x z (sym there ∙ ap (λ (n : ℕ). slice_get xs n) e ∙ at)),
    )
    by k z at (inr ne) = (z, set_elsewhere xs i k y ne ∙ at, refl)

-- what was there before a list grew
pub get_before : {X : Type 0} (xs ys : List X) (k : ℕ) (x : X) → slice_get xs k ≡ Some x
    → slice_get (xs ++ ys) k ≡ Some x
get_before [] ys k x e = cc
get_before (z ∷ xs) ys zero x e = e
get_before (z ∷ xs) ys (suc k) x e = get_before xs ys k x e

pub kept_push : {X K : Type 0} (key : X → K) (xs : List X) (x : X) → IsKept key xs (xs ++ x ∷ [])
kept_push key xs x =
    record {
      count = omega (arith, length-append xs (x ∷ []));
      items = λ k z at. (z, get_before xs (x ∷ []) k z at, refl);
    }

-- what is told of them stays
map_is : {X Y : Type 0} (f : X → Y) (o : Option X) (v : Y) → option_map f o ≡ Some v
    → (x : X) × (o ≡ Some x) × (f x ≡ v)
map_is f None v e = cc
map_is f (Some x) v e = (x, refl, same_Some (f x) v e)

pub map_kept : {X K Y : Type 0} (key : X → K) (f g : X → Y) → ((x y : X) → key y ≡ key x → g y ≡ f x)
    → (xs ys : List X) → IsKept key xs ys → (k : ℕ) (v : Y) → slice_get (map f xs) k ≡ Some v
    → slice_get (map g ys) k ≡ Some v
map_kept key f g agree xs ys h k v e =
    let (x, at, is) = map_is f (slice_get xs k) v (sym (slice_get-map f xs k) ∙ e) in
    let (y, there, same) = h.items k x at in
    slice_get-map g ys k ∙ ap (option_map g) there ∙ ap Some (agree x y same ∙ is)

-- the one that has come
pub get_pushed : {X : Type 0} (xs : List X) (x : X) → slice_get (xs ++ x ∷ []) (length xs) ≡ Some x
get_pushed [] x = refl
get_pushed (y ∷ ys) x = get_pushed ys x
