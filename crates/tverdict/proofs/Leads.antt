-- Agents that leads name.
use Rattle.std.proofs.Common.{◌≡◌, sym, refl, subst, Bool, true, false, Option}
use Rattle.std.specs.Bool.{then_some}
use Rattle.std.specs.Prelude.{IfSome}

-- what is given if a test passes
pub if_passes : {X : Type 0} (P : X → Type 0) (b : Bool) (x : X) (o : Option X) → o ≡ then_some b x → (b ≡ true → P x)
    → IfSome o P
if_passes P true x o e h = subst (λ (p : Option _). IfSome p P) (sym e) (h refl)
if_passes P false x o e h = subst (λ (p : Option _). IfSome p P) (sym e) tt
