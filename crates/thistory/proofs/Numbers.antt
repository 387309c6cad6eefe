-- A number at the right end of its column.
use Rattle.std.proofs.Common.{◌≡◌, ℕ, ◌+◌, ◌-◌, ◌/◌, ◌%◌, ◌<◌, ◌≤◌, ◌≢◌, refl, sym, ap, ◌∙◌, List, [], ◌∷◌, ◌++◌}
use Rattle.std.proofs.Common.{length, append_assoc, arith, decimal, length-append}
use Rattle.std.specs.Prelude.{replicate}
use Rattle.std.proofs.lemmas.Fmt.{decimal_digit, decimal_step}
use Rattle.thistory.specs.Lines.{at_right}

-- one digit more takes one column more
pub at_right-more : (width left digit : ℕ) (text : List ℕ) → left ≡ width - 1
    → at_right left text ++ digit ∷ [] ≡ at_right width (text ++ digit ∷ [])
at_right-more width left digit text e =
    let room : left - length text ≡ width - length (text ++ digit ∷ []) =
    omega (arith, e, length-append text (digit ∷ [])) in
    append_assoc (replicate (left - length text) 32) text (digit ∷ [])
    ∙ ap (λ (k : ℕ). replicate k 32 ++ (text ++ digit ∷ [])) room

-- the first digit
pub at_right-first : (width left digit : ℕ) → left ≡ width - 1 → digit < 10
    → replicate left 32 ++ decimal digit ≡ at_right width (decimal digit)
at_right-first width left digit e small =
    let one : length (decimal digit) ≡ 1 = ap length (decimal_digit digit small) in
    ap (λ (k : ℕ). replicate k 32 ++ decimal digit) (omega (arith, e, one))
