-- The number that hexadecimal digits write, digit by digit.
use Rattle.std.proofs.Common.{◌≡◌, ◌∙◌, ◌+◌, ◌*◌, ◌^◌, ◌<◌, ◌≤◌, ◌&&◌, ℕ, List, Bool, true, ap, ap₂, arith, length}
use Rattle.std.proofs.Common.{get_or, take}
use Rattle.std.proofs.Math.Nat.{pow-le-pow_right, pow-suc}
use Rattle.std.proofs.lemmas.Bool.{lt-ltb}
use Rattle.std.proofs.lemmas.Int.Digits.{digits_value_more}
use Rattle.std.proofs.lemmas.List.Folds.{list_all_more}
use Rattle.std.specs.Char.{digit_value}
use Rattle.std.specs.List.{list_all}
use Rattle.std.specs.Str.Parse.{digits_value}
use Rattle.twords.specs.Addresses.{is_hexadecimal}

-- up to seven digits leave room for another
pub small : (value i : ℕ) → value < 16 ^ i → i < 8 → value < 268435456
small value i below few =
    let seven : i ≤ 7 = omega (arith, few) in
    let most : 16 ^ i ≤ 16 ^ 7 = pow-le-pow_right {n = 16} (omega arith) seven in
    omega (arith, below, most)

-- one digit more
pub more : (digits : List ℕ) (i value digit byte : ℕ) → i < length digits
    → (list_all is_hexadecimal (take i digits) ≡ true) × (value ≡ digits_value 16 (take i digits)) × (value < 16 ^ i)
    → byte ≡ get_or digits i 0 → digit_value byte < 16 → digit ≡ digit_value byte
    → (list_all is_hexadecimal (take (i + 1) digits) ≡ true)
    × (16 * value + digit ≡ digits_value 16 (take (i + 1) digits)) × (16 * value + digit < 16 ^ (i + 1))
more digits i value digit byte within so_far here hexadecimal is =
    let same : digit_value byte ≡ digit_value (get_or digits i 0) = ap digit_value here in
    let low : digit_value (get_or digits i 0) < 16 = omega (arith, hexadecimal, same) in
    let power : 16 ^ (i + 1) ≡ 16 ^ i * 16 = ap (λ (k : ℕ). 16 ^ k) (omega arith) ∙ pow-suc 16 i in (
      list_all_more is_hexadecimal digits i 0 within ∙ ap₂ (λ (a b : Bool). a && b) so_far.0 (lt-ltb _ 16 low),
      omega (arith, digits_value_more 16 digits i within, so_far.1, is, same),
      omega (arith, power, so_far.2, is, hexadecimal),
    )
