-- What a list contains is one of it.
use Rattle.std.proofs.Common.{arith, List, [], ◌∷◌, Contains, inl, inr}
use Rattle.tagents.specs.Tidy.{IsOneOf}
use Rattle.tclocks.proofs.Lists.{contains-cons}

pub one-of : {X : Type 0} (x : X) (xs : List X) → Contains xs x → IsOneOf x xs
one-of x [] has = absurd (omega (arith, has.1))
one-of x (y ∷ ys) has = elim (contains-cons y ys x has) as (λ _. IsOneOf x (y ∷ ys)) [
  | inl here ↦ inl here
  | inr there ↦ inr (one-of x ys there)
]
