-- The bits of a set of nodes.
use Rattle.std.proofs.Common.{◌≡◌, ◌≢◌, ℕ, zero, suc, ◌^◌, ◌<◌, ◌≤◌, ◌⊎◌, inl, inr, sym, ap, ◌∙◌, arith, w64}
use Rattle.std.specs.Int.{bit_at, trailing_zeros}
use Rattle.std.specs.Int.Count.{trailing_of_zero}
use Rattle.std.proofs.lemmas.Bool.{cases_eq, cases_lt}
use Rattle.std.proofs.lemmas.Nat.{trailing_le}
use Rattle.std.proofs.lemmas.Nat.Bits.{bit_at-zero, bit_at_above, bit_at-trailing_zeros}

-- below the lowest bit that is set none is
pub below_lowest : (b : ℕ) → b < 2 ^ 64 → (i : ℕ) → i < trailing_zeros w64 b → bit_at b i ≡ 0
below_lowest zero fits i lt = bit_at-zero i
below_lowest (suc m) fits i lt = (bit_at-trailing_zeros w64 (suc m) (omega arith) fits).2 i lt

-- the lowest bit, where one is set
pub lowest : (b : ℕ) → b < 2 ^ 64 → trailing_zeros w64 b < 64 → bit_at b (trailing_zeros w64 b) ≡ 1
lowest zero fits lt = absurd (omega (arith, trailing_of_zero 64, lt))
lowest (suc m) fits lt = (bit_at-trailing_zeros w64 (suc m) (omega arith) fits).1

-- the bits of a number that has one bit less than another
module _ (b c k : ℕ) (fits : b < 2 ^ 64) (fewer : c < 2 ^ 64) (within : k < 64) (here : bit_at c k ≡ 0)
    (others : (n : ℕ) → n < 64 → n ≢ k → bit_at c n ≡ bit_at b n) where
  -- where none was set below that bit, the next one stands behind it
  pub later_bit : ((n : ℕ) → n < k → bit_at b n ≡ 0) → k < trailing_zeros w64 c
  later_bit before = by (cases_lt k (trailing_zeros w64 c))
    where
      none : (n : ℕ) → n ≤ k → (n ≡ k) ⊎ (n ≢ k) → bit_at c n ≡ 0
      none n le (inl e) = ap (bit_at c) e ∙ here
      none n le (inr ne) = others n (omega arith) ne ∙ before n (omega arith)

      by : (k < trailing_zeros w64 c) ⊎ (trailing_zeros w64 c ≤ k) → k < trailing_zeros w64 c
      by (inl lt) = lt
      by (inr le) =
          absurd (omega (
            arith,
            sym (none (trailing_zeros w64 c) le (cases_eq (trailing_zeros w64 c) k))
                ∙ lowest c fewer (omega arith),
          ))

  -- up to the next one none is set
  pub between_bits : (n : ℕ) → k < n → n < trailing_zeros w64 c → bit_at b n ≡ 0
  between_bits n behind lt =
      sym (others n (omega (arith, trailing_le 64 c, lt)) (λ e. absurd (omega arith))) ∙ below_lowest c fewer n lt

  -- from the next one on the bits are the same, as those of a third number are
  module _ (a : ℕ) (later : k < trailing_zeros w64 c) (same : (n : ℕ) → k ≤ n → bit_at b n ≡ bit_at a n) where
    pub same_bits : (n : ℕ) → trailing_zeros w64 c ≤ n → bit_at c n ≡ bit_at a n
    same_bits n from = by (cases_lt n 64)
      where
        by : (n < 64) ⊎ (64 ≤ n) → bit_at c n ≡ bit_at a n
        by (inl lt) = others n lt (λ e. absurd (omega arith)) ∙ same n (omega arith)
        by (inr above) =
            bit_at_above c 64 n fewer above ∙ (sym (bit_at_above b 64 n fits above) ∙ same n (omega arith))

    pub next_bit : trailing_zeros w64 c < 64 → bit_at a (trailing_zeros w64 c) ≡ 1
    next_bit lt = sym (same_bits (trailing_zeros w64 c) (omega arith)) ∙ lowest c fewer lt
