-- Places at which two names may differ.
use Rattle.std.proofs.Common.{◌≡◌, ℕ, ◌<◌, ap, ◌∙◌, length, Bool, true, false, arith, zero-add}
use Rattle.std.specs.List.{list_any, range_with_len}
use Rattle.std.proofs.lemmas.List.Folds.{list_any_at, list_any_none}
use Rattle.std.proofs.lemmas.List.FromFn.{length-range_with_len, get_or-range_with_len}

-- no number below an end passes a test
pub none_below : (p : ℕ → Bool) (n : ℕ) → ((k : ℕ) → k < n → p k ≡ false) → list_any p (range_with_len 0 n) ≡ false
none_below p n h =
    let count : length (range_with_len 0 n) ≡ n = length-range_with_len 0 n in
    list_any_none p (range_with_len 0 n) (λ k d b.
    let l : k < n = omega (arith, b, count) in
    ap p (get_or-range_with_len 0 n k d l ∙ zero-add k) ∙ h k l)

-- one does
pub one_below : (p : ℕ → Bool) (n k : ℕ) → k < n → p k ≡ true → list_any p (range_with_len 0 n) ≡ true
one_below p n k l h =
    let count : length (range_with_len 0 n) ≡ n = length-range_with_len 0 n in
    list_any_at p (range_with_len 0 n) k 0 (omega (arith, l, count))
    (ap p (get_or-range_with_len 0 n k 0 l ∙ zero-add k) ∙ h)
