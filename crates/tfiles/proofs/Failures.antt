-- Counts of failures, from call to call.
use Rattle.std.proofs.Common.{◌≡◌, ℕ, zero, suc, ◌+◌, ◌<◌, ap, ◌∙◌, Bool, true, false, List, Option, None, Some}
use Rattle.std.proofs.Common.{Result, Ok, Err, arith}
use Rattle.tfiles.specs.Failures.{failed_write, Counts, HasRisen, HasStayed}

-- no call failed, and then none did
pub stayed-then : (a b c : Option ℕ) → HasStayed a b → HasStayed b c → HasStayed a c
stayed-then None b c p q = tt
stayed-then (Some n) None c p q = absurd p
stayed-then (Some n) (Some m) None p q = absurd q
stayed-then (Some n) (Some m) (Some k) p q = q ∙ p

-- no call failed, and then one did
pub risen-then : (a b c : Option ℕ) → HasStayed a b → HasRisen b c → HasRisen a c
risen-then None b c p q = tt
risen-then (Some n) None c p q = absurd p
risen-then (Some n) (Some m) None p q = absurd q
risen-then (Some n) (Some m) (Some k) p q = q ∙ ap (λ (i : ℕ). i + 1) p

-- no call failed, and then one did, or none
pub counts-then : (a b c : Option ℕ) (said : Bool) → HasStayed a b → Counts b c said → Counts a c said
counts-then a b c true = risen-then a b c
counts-then a b c false = stayed-then a b c

-- a write that took some bytes has not failed
pub took-stayed : {E : Type 0} (r : Result ℕ E) (n : ℕ) (bytes : List ℕ) (a b : Option ℕ) → r ≡ Ok n → 0 < n
    → Counts a b (failed_write r bytes) → HasStayed a b
took-stayed (Ok zero) n bytes a b e l c = let z : zero ≡ n = cc in absurd (omega (arith, z, l))
took-stayed (Ok (suc m)) n bytes a b e l c = c
took-stayed (Err f) n bytes a b e l c = cc
