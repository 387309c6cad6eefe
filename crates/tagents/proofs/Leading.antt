-- When the step of a walker leads to another.
use Rattle.std.proofs.Common.{◌≡◌, ap, ◌∙◌, true, false, ◌&&◌, ◌||◌, not, List, [], ◌∷◌}
use Rattle.std.proofs.lemmas.Bool.{and_from, or_left, or_right, not_from_false}
use Rattle.tagents.specs.Walks.{Sight, Label, Walkers, changes_at, was_shut, has_awoken, was_opened, step_leads}
use Rattle.tagents.specs.Tidy.{IsOneOf, IsGate, AreTold}
use Rattle.tagents.proofs.Found.{from_found}
use Rattle.tagents.proofs.Apart.{same_self}

module _ {Agent Place Value Change Kind Deed : Type 0} (w : Walkers Agent Place Value Change Kind Deed)
    (told : AreTold w) (e f : Label Agent Place Value Deed) (p : Place) (gate : IsGate w f.agent p) where
  -- it saw a gate of the other's agent shut
  pub leads_by_shut : (x : Sight Place Value) → IsOneOf x e.seen → x.place ≡ p
      → w.is_open f.agent p x.value ≡ false → step_leads w e f ≡ true
  leads_by_shut x seen there shut =
      from_found (λ p. was_shut w f.agent p e.seen || was_opened w e.deed p f.seen) p (w.gates f.agent) gate
      (or_left (was_shut w f.agent p e.seen) (was_opened w e.deed p f.seen)
      (from_found (λ x. w.same_place x.place p && not (w.is_open f.agent p x.value)) x e.seen seen
      (and_from (w.same_place x.place p) _ (same_self w told x.place p there) (not_from_false _ shut))))

  -- its one change at such a gate made what the other saw there, and awakens it
  pub leads_by_awakening : (c : Change) (x : Sight Place Value) → changes_at w e.deed p ≡ c ∷ [] → IsOneOf x f.seen
      → x.place ≡ p → w.awakens c x.value ≡ true → step_leads w e f ≡ true
  leads_by_awakening c x changes seen there awakens =
      from_found (λ p. was_shut w f.agent p e.seen || was_opened w e.deed p f.seen) p (w.gates f.agent) gate
      (or_right (was_shut w f.agent p e.seen) (was_opened w e.deed p f.seen)
      (from_found (λ x. w.same_place x.place p && has_awoken w (changes_at w e.deed p) x.value) x f.seen seen
      (and_from (w.same_place x.place p) _ (same_self w told x.place p there)
      (ap (λ (cs : List Change). has_awoken w cs x.value) changes ∙ awakens))))
