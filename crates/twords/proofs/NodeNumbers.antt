-- The number of a node that a text writes.
use Rattle.std.proofs.Common.{◌≡◌, ◌<◌, ◌^◌, ℕ, Bool, true, false, refl, sym, subst, arith}
use Rattle.std.proofs.Common.{List, [], ◌∷◌, length, None, Result, Err}
use Rattle.std.specs.Prelude.{nat_le, OkIff}
use Rattle.std.specs.Char.{digit_value}
use Rattle.std.specs.List.{list_all}
use Rattle.std.specs.Str.Parse.{AllDigits, IsNumeral, digits_value, without_leading_plus}
use Rattle.std.proofs.lemmas.Bool.{and_parts, leb-true, ne_eqb}
use Rattle.twords.specs.NamesFiles.{is_decimal, is_number, node_of}

-- a decimal digit has a value below ten
below_ten : (byte : ℕ) → is_decimal byte ≡ true → digit_value byte < 10
below_ten byte e =
    let parts = and_parts (nat_le 48 byte) (nat_le byte 57) e in
    grind (arith, parts.0, parts.1)

all_digits : (text : List ℕ) → list_all is_decimal text ≡ true → AllDigits 10 text
all_digits [] e = tt
all_digits (byte ∷ rest) e =
    let parts = and_parts (is_decimal byte) (list_all is_decimal rest) e in
    (below_ten byte parts.0, all_digits rest parts.1)

-- no digit is a plus
no_plus : (text : List ℕ) → list_all is_decimal text ≡ true → without_leading_plus text ≡ text
no_plus [] e = refl
no_plus (byte ∷ rest) e =
    let parts = and_parts (is_decimal byte) (list_all is_decimal rest) e in
    let low = and_parts (nat_le 48 byte) (nat_le byte 57) parts.0 in
    rw (ne_eqb byte 43 (λ is. omega (arith, is, leb-true 48 byte low.0))) refl

abbrev pub Parses : (E : Type 0) → List ℕ → Result ℕ E → Type 0
Parses E text r = OkIff r (IsNumeral 10 (without_leading_plus text)
    × (digits_value 10 (without_leading_plus text) < 2 ^ 8))
    (digits_value 10 (without_leading_plus text))

-- a text of digits alone that is not read writes no node
pub node_unread : (E : Type 0) (text : List ℕ) (fault : E) → list_all is_decimal text ≡ true
    → Parses E text (Err fault) → None ≡ node_of text
node_unread E text fault e h = go (is_number text) refl
  where
    refuses : is_number text ≡ true → ⊥
    refuses is =
        let same = sym (no_plus text e) in
        let first = and_parts (nat_le 1 (length text)) _ is in
        let second = and_parts (nat_le (length text) 3) _ first.1 in
        let third = and_parts (list_all is_decimal text) _ second.1 in
        let some : 0 < length text = omega (arith, leb-true 1 (length text) first.0) in
        let low : digits_value 10 text < 2 ^ 8 = omega (arith, leb-true (digits_value 10 text) 255 third.1) in
        h (
          (subst (λ (t : List ℕ). 0 < length t) same some, subst (AllDigits 10) same (all_digits text e)),
          subst (λ (t : List ℕ). digits_value 10 t < 2 ^ 8) same low,
        )

    go : (b : Bool) → is_number text ≡ b → None ≡ node_of text
    go true is = absurd (refuses is)
    go false is = rw is refl
