-- The bits of a set of nodes.
use Rattle.std.proofs.Common.{◌≡◌, ℕ, zero, suc, ◌^◌, ◌<◌, ◌*◌, ◌%◌, ◌⊎◌, inl, inr, refl, sym, ap, ◌∙◌, arith, w64}
use Rattle.std.proofs.Common.{Bool, true, false, min}
use Rattle.std.specs.Prelude.{◌&&◌, ◌||◌, ◌==◌}
use Rattle.std.specs.Int.{bit_at, trailing_zeros}
use Rattle.std.specs.Int.RustNames.{bit_and, bit_or}
use Rattle.std.proofs.lemmas.Bool.{cases_eq, eq-eqb, ne_eqb, or_left, or_right}
use Rattle.std.proofs.lemmas.Nat.Bits.{bit_at_and, bit_at-lt, bit_at-trailing_zeros, bit_at-zero}
use Rattle.std.proofs.lemmas.Nat.Bits.{bit_at_set_other, bit_at_set_same}
use mathlib.Core.Bool.{or-false}
use Rattle.twhere.specs.declared.node_set.NodeSet.{NodeSet}
use Rattle.twhere.specs.NodeSets.{has_node, no_nodes}

-- no bit is set in 0
pub none_set : (n : ℕ) → has_node no_nodes n ≡ false
none_set n = ap (λ (b : ℕ). b == 1) (bit_at-zero n)

-- one bit more
pub one_more : (x k : ℕ) → k < 64 → (n : ℕ)
    → (bit_at (bit_or x (1 * 2 ^ k % 2 ^ 64)) n == 1) ≡ ((bit_at x n == 1) || (k == n))
one_more x k l n = by (cases_eq n k)
  where
    by : (n ≡ k) ⊎ (n ≡ k → ⊥) → (bit_at (bit_or x (1 * 2 ^ k % 2 ^ 64)) n == 1) ≡ ((bit_at x n == 1) || (k == n))
    by (inl e) =
        eq-eqb _ 1 (ap (bit_at (bit_or x (1 * 2 ^ k % 2 ^ 64))) e ∙ bit_at_set_same w64 x k l)
        ∙ sym (or_right (bit_at x n == 1) (k == n) (eq-eqb k n (sym e)))
    by (inr other) =
        ap (λ (b : ℕ). b == 1) (bit_at_set_other w64 x k l n other)
        ∙ sym (ap (λ (b : Bool). (bit_at x n == 1) || b) (ne_eqb k n (λ e. other (sym e))) ∙ or-false (bit_at x n == 1))

-- a bit of both
min_bits : (a b : ℕ) → a < 2 → b < 2 → (min a b == 1) ≡ ((a == 1) && (b == 1))
min_bits zero b k l = let e : min 0 b ≡ 0 = omega arith in rw e refl
min_bits (suc zero) b k l = let e : min 1 b ≡ b = omega (arith, l) in rw e refl
min_bits (suc (suc a)) b k l = absurd (omega (arith, k))

pub both_set : (x y n : ℕ) → (bit_at (bit_and x y) n == 1) ≡ ((bit_at x n == 1) && (bit_at y n == 1))
both_set x y n =
    ap (λ (b : ℕ). b == 1) (bit_at_and x y n)
    ∙ min_bits (bit_at x n) (bit_at y n) (bit_at-lt x n) (bit_at-lt y n)

-- a number that is not 0 has a bit
pub some_set : (x : ℕ) → x < 2 ^ 64 → (x ≡ 0 → ⊥) → (n : ℕ) × ((bit_at x n == 1) ≡ true)
some_set x fits some = (
  trailing_zeros w64 x,
  eq-eqb _ 1 (bit_at-trailing_zeros w64 x (omega (arith, some)) fits).1,
)

-- 0 has none
pub zero_none : (x : ℕ) → x ≡ 0 → (n : ℕ) → (bit_at x n == 1) ≡ false
zero_none x e n = ap (λ (y : ℕ). bit_at y n == 1) e ∙ none_set n
