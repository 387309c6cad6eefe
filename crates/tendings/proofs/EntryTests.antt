-- What tests of the entries of a process table tell of those that wait.
use Rattle.std.proofs.Common.{◌≡◌, ◌||◌, suc, refl, sym, ap, arith, Bool, false, List, [], ◌∷◌, length, Option, Some}
use Rattle.std.proofs.Common.{None, is_some}
use Rattle.std.specs.Prelude.{filter_map, nat_lt}
use Rattle.std.specs.List.{cons_option, list_any}
use Rattle.std.specs.Option.{option_map_or}
use Rattle.std.proofs.lemmas.Bool.{lt-ltb}

-- one of those that are kept has something
pub any_kept : {A B : Type 0} (f : A → Option B) (test : B → Bool) (xs : List A)
    → list_any (λ x. option_map_or test (f x) false) xs ≡ list_any test (filter_map f xs)
any_kept f test [] = refl
any_kept {A = A} {B = B} f test (x ∷ xs) = by (f x) (any_kept f test xs)
  where
    by : (o : Option B) → list_any (λ y. option_map_or test (f y) false) xs ≡ list_any test (filter_map f xs)
        → (option_map_or test o false || list_any (λ y. option_map_or test (f y) false) xs)
        ≡ list_any test (cons_option o (filter_map f xs))
    by None later = later
    by (Some y) later = ap (λ b. test y || b) later

-- some are kept
pub some_kept : {A B : Type 0} (f : A → Option B) (xs : List A)
    → list_any (λ x. is_some (f x)) xs ≡ nat_lt 0 (length (filter_map f xs))
some_kept f [] = refl
some_kept {A = A} {B = B} f (x ∷ xs) = by (f x) (some_kept f xs)
  where
    by : (o : Option B) → list_any (λ y. is_some (f y)) xs ≡ nat_lt 0 (length (filter_map f xs))
        → (is_some o || list_any (λ y. is_some (f y)) xs) ≡ nat_lt 0 (length (cons_option o (filter_map f xs)))
    by None later = later
    by (Some y) later = sym (lt-ltb 0 (suc (length (filter_map f xs))) (omega arith))
