-- A chain is put at the head of a buffer, its last byte behind its prefixes.
use Rattle.std.proofs.Common.{◌≡◌, ℕ, zero, suc, ◌+◌, ◌-◌, ◌*◌, ◌/◌, ◌%◌, ◌^◌, ◌<◌, ◌≤◌, sym, ap, ◌∙◌, List, [], ◌∷◌}
use Rattle.std.proofs.Common.{◌++◌, length, get_or, drop, ℤ, pos, negsuc, false, w32, of_z, arith, append_assoc}
use Rattle.std.proofs.Common.{drop-cons}
use Rattle.std.proofs.Math.ListN.{set}
use Rattle.std.proofs.Math.Seq.{set-append_seam}
use Rattle.std.proofs.lemmas.Bool.{le-ltb, lt-ltb, le-leb, false≢true}
use Rattle.std.specs.Int.Signed.{le_z}
use Rattle.std.specs.Prelude.{FitsSigned}
use Rattle.tcode.specs.Chains.{pfix, nfix}
use Rattle.tcode.specs.Encoding.{chain}

-- a byte behind what stands at the head of a buffer
pub put-next : (buffer old front : List ℕ) (at byte : ℕ) → buffer ≡ front ++ drop at old → at ≡ length front
    → at < length old
    → set buffer at byte ≡ (front ++ byte ∷ []) ++ drop (at + 1) old
put-next buffer old front at byte e same room =
    let after : suc at ≡ at + 1 = omega arith in
    ap (λ (b : List ℕ). set b at byte) (e ∙ ap (λ (d : List ℕ). front ++ d) (drop-cons old at 0 room))
    ∙ ap (λ (n : ℕ). set (front ++ get_or old at 0 ∷ drop (suc at) old) n byte) same
    ∙ set-append_seam front (get_or old at 0) (drop (suc at) old) byte
    ∙ ap (λ (n : ℕ). front ++ byte ∷ drop n old) after
    ∙ sym (append_assoc front (byte ∷ []) (drop (at + 1) old))

-- a chain without prefixes
pub chain-one : (most code n : ℕ) → 0 < most → n < 16 → chain most code (pos n) ≡ (16 * code + n % 16) ∷ []
chain-one zero code n some small = absurd (omega arith)
chain-one (suc most) code n some small =
    let same : n ≡ n % 16 = omega arith in
    rw (lt-ltb n 16 small) (ap (λ (d : ℕ). (16 * code + d) ∷ []) same)

-- a chain with prefixes
pub chain-more : (most code n : ℕ) → 0 < most → 16 ≤ n
    → chain most code (pos n) ≡ chain (most - 1) pfix (pos (n / 16)) ++ (16 * code + n % 16) ∷ []
chain-more zero code n some large = absurd (omega arith)
chain-more (suc most) code n some large =
    let less : most ≡ suc most - 1 = omega arith in
    rw (le-ltb n 16 large) (ap (λ (k : ℕ). chain k pfix (pos (n / 16)) ++ (16 * code + n % 16) ∷ []) less)

complement_is : (u : ℕ) (e : ℤ) → FitsSigned w32 e → le_z (pos 0) e ≡ false → u ≡ of_z w32 e
    → e ≡ negsuc (2 ^ 32 - 1 - u)
complement_is u (pos n) fits below same = absurd (false≢true (sym below ∙ le-leb 0 n (omega arith)))
complement_is u (negsuc n) fits below same = let less = fits.sfits in ap negsuc (omega arith)

-- a negative operand goes by its complement
pub chain-negative : (code u : ℕ) (e : ℤ) → FitsSigned w32 e → le_z (pos 0) e ≡ false → u ≡ of_z w32 e
    → chain 8 code e ≡ chain 7 nfix (pos ((2 ^ 32 - 1 - u) / 16)) ++ (16 * code + (15 - (2 ^ 32 - 1 - u) % 16)) ∷ []
chain-negative code u e fits below same = ap (chain 8 code) (complement_is u e fits below same)
