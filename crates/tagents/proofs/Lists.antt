-- Lists of steps: where a step is left out that none before it has to come before, what had no race has none.
use Rattle.std.proofs.Common.{◌≡◌, List, [], ◌∷◌, ◌++◌, false, inl, inr}
use Rattle.tagents.specs.Agents.{Agents}
use Rattle.tagents.specs.Races.{ComesBefore, OneComesBefore, HasNoRace, IsRaceFree, TakesNothing}

module _ {State Agent Label : Type 0} (m : Agents State Agent Label) (f : Label) where
  -- none of these has to come before the step
  abbrev pub NoneBefore : List Label → Type 0
  NoneBefore [] = Unit {0}
  NoneBefore (z ∷ zs) = (ComesBefore m z f → ⊥) × NoneBefore zs

  pub none_of : (known : List Label) → NoneBefore known → OneComesBefore m known f → ⊥
  none_of [] none one = absurd one
  none_of (z ∷ zs) none (inl here) = none.0 here
  none_of (z ∷ zs) none (inr there) = none_of zs none.1 there

  -- a step with no race clashes with none that nothing has to come before
  pub no_clash : (e : Label) (known pre post : List Label) → NoneBefore known → NoneBefore pre
      → HasNoRace m e known (pre ++ f ∷ post) → m.clash e f ≡ false
  no_clash e known [] post k p (inl h) = absurd (none_of known k h.0)
  no_clash e known [] post k p (inr h) = h.0
  no_clash e known (z ∷ zs) post k p (inl h) = no_clash e (z ∷ known) zs post (p.0, k) p.1 h.1
  no_clash e known (z ∷ zs) post k p (inr h) = no_clash e known zs post k p.1 h.1

  -- and has none where that one is left out
  pub has_none : (e : Label) (known pre post : List Label) → NoneBefore known → NoneBefore pre
      → HasNoRace m e known (pre ++ f ∷ post) → HasNoRace m e known (pre ++ post)
  has_none e known [] post k p (inl h) = absurd (none_of known k h.0)
  has_none e known [] post k p (inr h) = h.1
  has_none e known (z ∷ zs) post k p (inl h) = inl (h.0, has_none e (z ∷ known) zs post (p.0, k) p.1 h.1)
  has_none e known (z ∷ zs) post k p (inr h) = inr (h.0, has_none e known zs post k p.1 h.1)

  pub race_free : (pre post : List Label) → NoneBefore pre → IsRaceFree m (pre ++ f ∷ post)
      → IsRaceFree m (pre ++ post)
  race_free [] post p h = h.1
  race_free (z ∷ zs) post p h = (has_none z (z ∷ []) zs post (p.0, tt) p.1 h.0, race_free zs post p.1 h.1)

  pub takes_nothing : (pre post : List Label) → TakesNothing m (pre ++ f ∷ post) → TakesNothing m (pre ++ post)
  takes_nothing [] post h = h.1
  takes_nothing (z ∷ zs) post h = (h.0, takes_nothing zs post h.1)
