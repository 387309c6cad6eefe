-- Which keys are near to each other, so that one may be a slip for the other. A letter is a byte of UTF-8.
-- Source: own choice, a rule of this program.
use Rattle.std.specs.Prelude.{ℕ, ◌+◌, Bool, ◌&&◌, ◌||◌, nat_eq, nat_le, List, ◌∷◌, length, take, drop, Option, bytes_eq}
use Rattle.std.specs.List.{find, list_any, range_with_len, starts_with}
use Rattle.twiring.specs.Wirings.{Names}

-- a name whose first two letters are swapped
abbrev pub swapped : List ℕ → List ℕ
swapped (x ∷ y ∷ rest) = y ∷ x ∷ rest
swapped name = name

-- two names are the same except for the first letter of one of them, or of both, or except for the order of the first
-- two
abbrev pub differ_first : List ℕ → List ℕ → Bool
differ_first a b =
    bytes_eq (drop 1 a) b || bytes_eq a (drop 1 b) || bytes_eq (drop 1 a) (drop 1 b) || bytes_eq (swapped a) b

-- two names are the same before a place, and from there on except for the first letter, or the order of the first two
abbrev pub differ_at : List ℕ → List ℕ → ℕ → Bool
differ_at a b place = bytes_eq (take place a) (take place b) && differ_first (drop place a) (drop place b)

-- two names are the same except for a letter that is put in, left out or changed, or two neighbours that are swapped
abbrev pub differ_once : List ℕ → List ℕ → Bool
differ_once a b = list_any (differ_at a b) (range_with_len 0 (length a + 1))

-- one name is the beginning of the other
abbrev pub begin_alike : List ℕ → List ℕ → Bool
begin_alike a b = starts_with nat_eq a b || starts_with nat_eq b a

-- two names are near: each has two letters or more, and one is the beginning of the other, or they differ once
abbrev pub are_near : List ℕ → List ℕ → Bool
are_near a b = nat_le 2 (length a) && nat_le 2 (length b) && (begin_alike a b || differ_once a b)

-- the first of some names that is near to a key
unfoldable pub near_name : List ℕ → Names → Option (List ℕ)
near_name key names = find (λ name. are_near name key) names
