-- Signed words as machine numbers.
use Rattle.std.proofs.Common.{◌≡◌, ℕ, ℤ, pos, negsuc, ◌<◌, ◌-◌, ◌%◌, ◌^◌, ◌+ℤ◌, ◌-ℤ◌, ◌*ℤ◌, FitsSigned, w32, w64, to_z}
use Rattle.std.proofs.Common.{of_z, ap, ◌∙◌, arith}
use Rattle.std.specs.Int.{int_wrap, int_wrapping_mul}
use Rattle.std.proofs.lemmas.Int.{ints, to_z-of_z, of_z-to_z, wrapping_mul_is}
use Rattle.tword.specs.Words.{reduced}

-- a sum of two signed words and a carry, in 64 bits
pub wide_sum : (x y a b c : ℤ) (k : ℕ) → FitsSigned w32 x → FitsSigned w32 y → k < 2
    → a ≡ to_z w32 (of_z w32 x) → b ≡ to_z w32 (of_z w32 y) → c ≡ pos k
    → to_z w64
    (of_z w64 (to_z w64 (of_z w64 (to_z w64 (of_z w64 a) +ℤ to_z w64 (of_z w64 b))) +ℤ to_z w64 (of_z w64 c)))
    ≡ x +ℤ y +ℤ pos k
wide_sum x y a b c k f g h p q r = omega (arith, ints)

-- a difference of two signed words and a borrow, in 64 bits
pub wide_difference : (x y a b c : ℤ) (k : ℕ) → FitsSigned w32 x → FitsSigned w32 y → k < 2
    → a ≡ to_z w32 (of_z w32 x) → b ≡ to_z w32 (of_z w32 y) → c ≡ pos k
    → to_z w64
    (of_z w64 (to_z w64 (of_z w64 (to_z w64 (of_z w64 a) -ℤ to_z w64 (of_z w64 b))) -ℤ to_z w64 (of_z w64 c)))
    ≡ x -ℤ y -ℤ pos k
wide_difference x y a b c k f g h p q r = omega (arith, ints)

-- what wrapping leaves, as a word
wrapped : (z : ℤ) → of_z w32 (int_wrap w32 z) ≡ reduced z
unfolding int_wrap
wrapped (pos n) = of_z-to_z w32 (n % 2 ^ 32) (omega arith)
wrapped (negsuc n) = of_z-to_z w32 (2 ^ 32 - 1 - n % 2 ^ 32) (omega arith)

reduced-lt : (z : ℤ) → reduced z < 2 ^ 32
reduced-lt (pos n) = omega arith
reduced-lt (negsuc n) = omega arith

-- a product of two signed words, wrapped
pub wrapped_product : (x y value : ℤ) → FitsSigned w32 x → FitsSigned w32 y
    → value ≡ int_wrapping_mul w32 (to_z w32 (of_z w32 x)) (to_z w32 (of_z w32 y))
    → of_z w32 (to_z w32 (of_z w32 value)) ≡ reduced (x *ℤ y)
wrapped_product x y value f g e =
    let product : value ≡ int_wrap w32 (x *ℤ y) = rw (to_z-of_z w32 x f, to_z-of_z w32 y g) at e
    ∙ wrapping_mul_is w32 x y f g in
    let word : of_z w32 value ≡ reduced (x *ℤ y) = ap (of_z w32) product ∙ wrapped (x *ℤ y) in
    of_z-to_z w32 (of_z w32 value) (rw word (reduced-lt (x *ℤ y))) ∙ word
