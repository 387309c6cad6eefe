-- A number of 64 bits shifted left by the zeros in front of it.
use Rattle.std.proofs.Common.{◌≡◌, ℕ, zero, suc, ◌<◌, ◌*◌, ◌%◌, ◌^◌, Option, Some, None, sym, refl, ◌∙◌, arith}
use Rattle.std.specs.Prelude.{unwrap_or, SomeIff}
use Rattle.std.specs.Int.{w64, leading_zeros}
use Rattle.std.proofs.lemmas.Nat.{leading_top, shl_whole}
use Rattle.std.proofs.Math.Nat.{zero-mul}

-- there are fewer than 64, except for 0
leading_zeros-lt : (n : ℕ) → 0 < n → n < 2 ^ 64 → leading_zeros w64 n < 64
leading_zeros-lt n some within = let top = leading_top 64 n some within in omega (arith, top.1)

-- such a shift loses nothing
shl-leading_zeros : (n : ℕ) → 0 < n → n < 2 ^ 64 → n * 2 ^ leading_zeros w64 n % 2 ^ 64 ≡ n * 2 ^ leading_zeros w64 n
shl-leading_zeros n some within =
    let top = leading_top 64 n some within in
    shl_whole n (suc top.0) (leading_zeros w64 n) 64 top.3 (omega (arith, top.1))

-- nor does one that is only made by fewer than 64
pub checked_shift : (n : ℕ) (shifted : Option ℕ) → n < 2 ^ 64
    → SomeIff shifted (leading_zeros w64 n < 64) (n * 2 ^ leading_zeros w64 n % 2 ^ 64)
    → unwrap_or shifted 0 ≡ n * 2 ^ leading_zeros w64 n
checked_shift zero None within is = sym (zero-mul _)
checked_shift (suc n) None within is = absurd (is (leading_zeros-lt (suc n) (omega arith) within))
checked_shift zero (Some v) within is = is.1 ∙ rw zero-mul refl
checked_shift (suc n) (Some v) within is = is.1 ∙ shl-leading_zeros (suc n) (omega arith) within
