-- A signed number as its sign and its digits.
use Rattle.std.proofs.Common.{◌≡◌, ℤ, pos, negsuc, refl, List, ℕ, [], ◌++◌, codes, decimal, Bool, true, false, arith}
use Rattle.std.proofs.lemmas.Bool.{ltb-true}
use Rattle.std.specs.Prelude.{if◌then◌else◌, int_lt, unsigned_abs}
use Rattle.std.specs.Fmt.{signed_decimal}

-- the sign, and then the digits
abbrev pub signed_text : ℤ → List ℕ
signed_text z = (if int_lt z (pos 0) then codes "-" else []) ++ decimal (unsigned_abs z)

not_below : (n : ℕ) (b : Bool) → int_lt (pos n) (pos 0) ≡ b → (if b then codes "-" else []) ++ decimal n ≡ decimal n
not_below n true e = absurd (omega (arith, ltb-true n 0 e))
not_below n false e = refl

pub signed_parts : (z : ℤ) → signed_text z ≡ signed_decimal z
signed_parts (pos n) = not_below n (int_lt (pos n) (pos 0)) refl
signed_parts (negsuc n) = refl
