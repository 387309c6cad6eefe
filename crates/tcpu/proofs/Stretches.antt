-- Instructions after which their process goes on.
use Rattle.std.proofs.Common.{◌≡◌, ◌+◌, ◌-◌, ◌<◌, ◌≤◌, ℕ, zero, suc, arith, sym, ap, ◌∙◌, Option, Some}
use Rattle.tword.specs.Stores.{Store}
use Rattle.tword.specs.Claims.{Claims}
use Rattle.tcpu.specs.declared.registers.Registers.{Registers}
use Rattle.tword.specs.declared.kind.Kind.{Kind}
use Rattle.tcpu.specs.Stretches.{gone_on, gone_one}

-- one more behind those that were done
pub gone_next : (k : ℕ) (kind kind' : Kind) (claims : Claims) (r mid : Registers) (s at : Store)
    (x : Option (Registers × Store)) → gone_on k kind claims r s ≡ Some (mid, at) → kind' ≡ kind
    → gone_one kind' claims (Some (mid, at)) ≡ x → gone_on (k + 1) kind claims r s ≡ x
unfolding gone_on
gone_next k kind kind' claims r mid s at x e same f =
    let next : k + 1 ≡ suc k = omega arith in
    rw (next, e) (rw same at f)

-- the same by how many are left of those that were asked for
pub gone_down : (most left : ℕ) (kind kind' : Kind) (claims : Claims) (r mid : Registers) (s at : Store)
    (x : Option (Registers × Store)) → 0 < left → left ≤ most
    → gone_on (most - left) kind claims r s ≡ Some (mid, at) → kind' ≡ kind
    → gone_one kind' claims (Some (mid, at)) ≡ x → gone_on (most - (left - 1)) kind claims r s ≡ x
gone_down most left kind kind' claims r mid s at x some few e same f =
    let next : most - (left - 1) ≡ most - left + 1 = omega arith in
    rw next (gone_next (most - left) kind kind' claims r mid s at x e same f)

further : (n k : ℕ) (kind : Kind) (claims : Claims) (r mid : Registers) (s at : Store)
    → gone_on k kind claims r s ≡ Some (mid, at)
    → gone_on (k + n) kind claims r s ≡ gone_on n kind claims mid at
unfolding gone_on
further zero k kind claims r mid s at e =
    let none : k + zero ≡ k = omega arith in
    rw none e
further (suc n) k kind claims r mid s at e =
    let next : k + suc n ≡ suc (k + n) = omega arith in
    rw next (ap (gone_one kind claims) (further n k kind claims r mid s at e))

-- some more behind those that were done
pub gone_further : (n k : ℕ) (kind kind' : Kind) (claims : Claims) (r mid : Registers) (s at : Store)
    (x : Option (Registers × Store)) → gone_on k kind claims r s ≡ Some (mid, at) → kind' ≡ kind
    → gone_on n kind' claims mid at ≡ x → gone_on (k + n) kind claims r s ≡ x
gone_further n k kind kind' claims r mid s at x e same f =
    further n k kind claims r mid s at e ∙ ap (λ (l : Kind). gone_on n l claims mid at) (sym same) ∙ f
