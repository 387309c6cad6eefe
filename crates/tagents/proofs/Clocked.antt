-- Clocks tell races: the clock of a step has counted all earlier ones that it clashes with, so chains lead from them.
use Rattle.std.proofs.Common.{◌≡◌, ◌≤◌, List, [], ◌∷◌, ◌++◌, true, reverse, subst, append-nil}
use Rattle.tagents.specs.Agents.{Agents}
use Rattle.tagents.specs.Chains.{AreChained}
use Rattle.tagents.specs.Clocks.{Entry, KnowsClashes, AreClocked, labels, ClocksTellRaces}
use Rattle.tagents.specs.Times.{AreTimed}
use Rattle.tagents.proofs.Parts.{turned}
use Rattle.tagents.proofs.Chained.{no_race_by_chains}
use Rattle.tagents.proofs.Timed.{clocked}
use Rattle.tagents.proofs.Counted.{labels-reverse, timed_part, counted_lead}

module _ {State Agent Label : Type 0} (m : Agents State Agent Label) where
  abbrev Clash : Label → Label → Type 0
  Clash e f = m.clash e f ≡ true

  -- what clashes with a step has been counted by its clock
  knows_it : (since : List (Entry Agent Label)) (z : Entry Agent Label) (before : List (Entry Agent Label))
      (f : Entry Agent Label) → KnowsClashes m (since ++ z ∷ before) f → Clash z.label f.label
      → z.place ≤ f.past (m.agent_of z.label)
  knows_it [] z before f k c = k.0 c
  knows_it (y ∷ since) z before f k c = knows_it since z before f k.1 c

  -- so clashes are chained
  clashes : (earlier later : List (Entry Agent Label)) → AreTimed m [] (reverse earlier ++ later)
      → AreClocked m earlier later → AreChained m Clash (labels earlier)
      → AreChained m Clash (labels (reverse later ++ earlier))
  clashes earlier [] timed k c = c
  clashes earlier (f ∷ fs) timed k c =
      let more : AreTimed m [] (reverse (f ∷ earlier) ++ fs) =
      subst (AreTimed m []) (turned f earlier fs) timed in
      subst (λ l. AreChained m Clash (labels l)) (turned f fs earlier)
      (clashes (f ∷ earlier) fs more k.1 (
        counted_lead m (λ e. Clash e f.label) f earlier (timed_part m [] (reverse (f ∷ earlier)) fs more)
            (λ since z before at. knows_it since z before f (subst (λ l. KnowsClashes m l f) at k.0.clashes)),
        c,
      ))

pub clocks_tell_races : (State Agent Label : Type 0) → ClocksTellRaces State Agent Label
clocks_tell_races State Agent Label m entries k =
    no_race_by_chains m (labels entries) (subst (AreChained m (Clash m)) (labels-reverse entries)
    (subst (λ l. AreChained m (Clash m) (labels l)) (append-nil (reverse entries))
    (clashes m [] entries (clocked m [] entries k) k tt)))
