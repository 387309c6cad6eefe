-- Runs that go on, and lists of steps that are turned round.
use Rattle.std.proofs.Common.{◌≡◌, refl, sym, ap, ◌∙◌, subst, false, List, [], ◌∷◌, ◌++◌, reverse}
use Rattle.std.proofs.lemmas.List.{reverse-append}
use Rattle.tagents.specs.Agents.{Agents, Does, IsRun}
use Rattle.tagents.specs.Races.{TakesNothing}
use Rattle.tagents.specs.Clocks.{Entry, labels}

-- a list is turned round by putting the first one last
pub turned : {A : Type 0} (x : A) (xs : List A) → reverse (x ∷ xs) ≡ reverse xs ++ x ∷ []
turned x xs = reverse-append (x ∷ []) xs

labels-append : {Agent Label : Type 0} (xs ys : List (Entry Agent Label)) → labels (xs ++ ys) ≡ labels xs ++ labels ys
labels-append [] ys = refl
labels-append (z ∷ zs) ys = ap (λ rest. z.label ∷ rest) (labels-append zs ys)

pub labels-turned : {Agent Label : Type 0} (entries : List (Entry Agent Label))
    → labels (reverse entries) ≡ reverse (labels entries)
labels-turned [] = refl
labels-turned (z ∷ zs) =
    ap labels (turned z zs) ∙ labels-append (reverse zs) (z ∷ [])
    ∙ ap (λ rest. rest ++ z.label ∷ []) (labels-turned zs) ∙ sym (turned z.label (labels zs))

module _ {State Agent Label : Type 0} (m : Agents State Agent Label) where
  run-on : (steps : List Label) (e : Label) (s t u : State) → IsRun m s steps t → Does m t e u
      → IsRun m s (steps ++ e ∷ []) u
  run-on [] e s t u same does = (u, subst (λ (v : State). Does m v e u) (sym same) does, refl)
  run-on (f ∷ fs) e s t u (mid, first, rest) does = (mid, first, run-on fs e mid t u rest does)

  nothing-on : (steps : List Label) (e : Label) → TakesNothing m steps → m.stops e ≡ false
      → TakesNothing m (steps ++ e ∷ [])
  nothing-on [] e h goes = (goes, tt)
  nothing-on (f ∷ fs) e h goes = (h.0, nothing-on fs e h.1 goes)

  -- a run whose steps are listed with the last one first goes on
  pub runs-on : (steps : List Label) (e : Label) (s t u : State) → IsRun m s (reverse steps) t → Does m t e u
      → IsRun m s (reverse (e ∷ steps)) u
  runs-on steps e s t u run does =
      subst (λ (list : List Label). IsRun m s list u) (sym (turned e steps)) (run-on (reverse steps) e s t u run does)

  pub takes-on : (steps : List Label) (e : Label) → TakesNothing m (reverse steps) → m.stops e ≡ false
      → TakesNothing m (reverse (e ∷ steps))
  takes-on steps e h goes =
      subst (λ (list : List Label). TakesNothing m list) (sym (turned e steps)) (nothing-on (reverse steps) e h goes)
