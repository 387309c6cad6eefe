-- Chains are told from their first step on. Told from the last step on, where of the steps between the last one stands
-- first, they are the same.
use Rattle.std.proofs.Common.{◌≡◌, sym, subst, List, [], ◌∷◌, ◌++◌, ◌⊎◌, inl, inr, reverse}
use Rattle.std.proofs.lemmas.List.{reverse-append, reverse-reverse}
use Rattle.tagents.specs.Agents.{Agents}
use Rattle.tagents.specs.Races.{ComesBefore}
use Rattle.tagents.specs.Chains.{IsChained, ChainsLead}

module _ {State Agent Label : Type 0} (m : Agents State Agent Label) where
  -- a step is chained to one that it comes before, whatever is between
  pub direct : (e f : Label) (between : List Label) → ComesBefore m e f → IsChained m e between f
  direct e f [] b = b
  direct e f (g ∷ between) b = inr (direct e f between b)

  -- a chain goes on past one more step
  pub longer : (e f g : Label) (between : List Label) → IsChained m e between f → IsChained m e (between ++ g ∷ []) f
  longer e f g [] c = inr c
  longer e f g (z ∷ zs) (inl c) = inl (c.0, longer z f g zs c.1)
  longer e f g (z ∷ zs) (inr c) = inr (longer e f g zs c)

  -- and through one more
  pub through : (e f g : Label) (between : List Label) → IsChained m e between g → ComesBefore m g f
      → IsChained m e (between ++ g ∷ []) f
  through e f g [] c b = inl (c, b)
  through e f g (z ∷ zs) (inl c) b = inl (c.0, through z f g zs c.1 b)
  through e f g (z ∷ zs) (inr c) b = inr (through e f g zs c b)

  -- a chain, told from its last step on: of the steps between, the last one first
  abbrev pub IsTraced : Label → (since : List Label) → Label → Type 0
  IsTraced e [] f = ComesBefore m e f
  IsTraced e (g ∷ since) f = IsTraced e since f ⊎ (IsTraced e since g × ComesBefore m g f)

  abbrev pub TracesLead : (Label → Type 0) → (earlier : List Label) → Label → Type 0
  TracesLead P earlier f =
      (e : Label) (since before : List Label) → earlier ≡ since ++ e ∷ before → P e → IsTraced e since f

  -- the same of a step that it comes before, whatever is between
  pub at_once : (e : Label) (since : List Label) (f : Label) → ComesBefore m e f → IsTraced e since f
  at_once e [] f b = b
  at_once e (g ∷ since) f b = inl (at_once e since f b)

  -- it begins before one more step
  before_it : (e z f : Label) (since : List Label) → IsTraced e since f → IsTraced e (since ++ z ∷ []) f
  before_it e z f [] c = inl c
  before_it e z f (g ∷ since) (inl c) = inl (before_it e z f since c)
  before_it e z f (g ∷ since) (inr c) = inr (before_it e z g since c.0, c.1)

  -- and goes through it
  through_it : (e z f : Label) (since : List Label) → ComesBefore m e z → IsTraced z since f
      → IsTraced e (since ++ z ∷ []) f
  through_it e z f [] b c = inr (b, c)
  through_it e z f (g ∷ since) b (inl c) = inl (through_it e z f since b c)
  through_it e z f (g ∷ since) b (inr c) = inr (through_it e z g since b c.0, c.1)

  -- so both are the same
  pub chained : (e : Label) (since : List Label) (f : Label) → IsTraced e since f → IsChained m e (reverse since) f
  chained e [] f b = b
  chained e (g ∷ since) f (inl c) =
      subst (λ (l : List Label). IsChained m e l f) (sym (reverse-append (g ∷ []) since))
      (longer e f g (reverse since) (chained e since f c))
  chained e (g ∷ since) f (inr c) =
      subst (λ (l : List Label). IsChained m e l f) (sym (reverse-append (g ∷ []) since))
      (through e f g (reverse since) (chained e since g c.0) c.1)

  turned_trace : (e : Label) (between : List Label) (f : Label) → IsChained m e between f
      → IsTraced e (reverse between) f
  turned_trace e [] f b = b
  turned_trace e (z ∷ zs) f (inl c) =
      subst (λ (l : List Label). IsTraced e l f) (sym (reverse-append (z ∷ []) zs))
      (through_it e z f (reverse zs) c.0 (turned_trace z zs f c.1))
  turned_trace e (z ∷ zs) f (inr c) =
      subst (λ (l : List Label). IsTraced e l f) (sym (reverse-append (z ∷ []) zs))
      (before_it e z f (reverse zs) (turned_trace e zs f c))

  pub traced : (e : Label) (since : List Label) (f : Label) → IsChained m e (reverse since) f → IsTraced e since f
  traced e since f c =
      subst (λ (l : List Label). IsTraced e l f) (reverse-reverse since) (turned_trace e (reverse since) f c)

  pub chains_lead : (P : Label → Type 0) (earlier : List Label) (f : Label) → TracesLead P earlier f
      → ChainsLead m P earlier f
  chains_lead P earlier f c e since before same holds = chained e since f (c e since before same holds)

  pub traces_lead : (P : Label → Type 0) (earlier : List Label) (f : Label) → ChainsLead m P earlier f
      → TracesLead P earlier f
  traces_lead P earlier f c e since before same holds = traced e since f (c e since before same holds)
