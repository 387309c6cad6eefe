-- What a loop over numbers comes to.
use Rattle.std.proofs.Common.{◌≡◌, ℕ, subst}

-- it comes to what it is at its last number
pub at_last : {A : Type 0} (f : ℕ → A) (x : A) (k n : ℕ) → x ≡ f k → k ≡ n → x ≡ f n
at_last f x k n h e = subst (λ (m : ℕ). x ≡ f m) e h
