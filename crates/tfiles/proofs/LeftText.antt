-- A loop that writes a text, piece by piece: what it has written and what is left make up the whole.
use Rattle.std.proofs.Common.{◌≡◌, ℕ, ◌+◌, ◌<◌, ◌≤◌, refl, List, [], ◌∷◌, ◌++◌, length, get_or, drop}
use Rattle.std.proofs.Common.{flat_map, add-one, drop-cons}
use Rattle.std.proofs.Math.ListN.{drop_of_length-le}
use Rattle.hex.specs.Hex.{encode_with, encode_lower}

-- the text of items, from one of them on
pub flat_map-next : {A : Type 0} (f : A → List ℕ) (xs : List A) (i : ℕ) (d : A) → i < length xs
    → flat_map f (drop i xs) ≡ f (get_or xs i d) ++ flat_map f (drop (i + 1) xs)
flat_map-next f xs i d l = rw (add-one, drop-cons xs i d) refl

pub flat_map-end : {A : Type 0} (f : A → List ℕ) (xs : List A) (i : ℕ) → length xs ≤ i → flat_map f (drop i xs) ≡ []
flat_map-end f xs i l = rw (drop_of_length-le xs l) refl

-- the digits of bytes, from one of them on
pub encode-next : (bytes : List ℕ) (i : ℕ) → i < length bytes
    → encode_lower (drop i bytes) ≡ encode_lower (get_or bytes i 0 ∷ []) ++ encode_lower (drop (i + 1) bytes)
unfolding encode_with
encode-next bytes i l = rw (add-one, drop-cons bytes i 0) refl

pub encode-end : (bytes : List ℕ) (i : ℕ) → length bytes ≤ i → encode_lower (drop i bytes) ≡ []
unfolding encode_with
encode-end bytes i l = rw (drop_of_length-le bytes l) refl
