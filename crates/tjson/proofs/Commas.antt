-- The values of an array, one after another, each but the first behind a comma.
use Rattle.std.proofs.Common.{◌≡◌, ℕ, refl, ap, sym, List, [], ◌∷◌, ◌++◌, append-nil, Bool, true, false}
use Rattle.std.specs.Prelude.{codes, if◌then◌else◌}
use Rattle.tjson.specs.Json.{listed, listed_from}

-- the comma before a value, unless it is the first
abbrev pub comma : Bool → List ℕ
comma is_first = if is_first then [] else codes ", "

pub listed_begin : (values : List (List ℕ)) → listed values ≡ listed_from true values
listed_begin [] = refl
listed_begin (v ∷ []) = sym (append-nil v)
listed_begin (v ∷ w ∷ vs) = ap (λ (rest : List ℕ). v ++ (codes ", " ++ rest)) (listed_begin (w ∷ vs))

pub listed_next : (is_first : Bool) (v : List ℕ) (vs : List (List ℕ))
    → listed_from is_first (v ∷ vs) ≡ (comma is_first ++ v) ++ listed_from false vs
listed_next true v vs = refl
listed_next false v vs = refl

-- one value
pub listed_one : (is_first : Bool) (v : List ℕ) → comma is_first ++ v ≡ listed_from is_first (v ∷ [])
listed_one true v = sym (append-nil v)
listed_one false v = ap (λ (text : List ℕ). codes ", " ++ text) (sym (append-nil v))
