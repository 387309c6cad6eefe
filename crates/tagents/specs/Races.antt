-- Races: two steps of a run that clash, and of which none has to come first.
-- Source: own choice, after Flanagan and Godefroid, Dynamic partial-order reduction (2005): the order is that of the
-- agents and of steps that lead to others, and no order of clashes.
use Rattle.std.specs.Prelude.{◌≡◌, ◌⊎◌, Bool, true, false, List, [], ◌∷◌}
use Rattle.tagents.specs.Agents.{Agents}

module _ {State Agent Label : Type 0} (m : Agents State Agent Label) where
  -- the first has to come before the second: it is the same agent's, or it leads to it
  abbrev pub ComesBefore : Label → Label → Type 0
  ComesBefore e f = (m.same (m.agent_of e) (m.agent_of f) ≡ true) ⊎ (m.leads e f ≡ true)

  -- one of these has to
  abbrev pub OneComesBefore : List Label → Label → Type 0
  OneComesBefore [] f = ⊥
  OneComesBefore (z ∷ zs) f = ComesBefore z f ⊎ OneComesBefore zs f

  -- each later step that clashes with this one comes after it, directly or through others: these are known to
  abbrev pub HasNoRace : Label → (known : List Label) → (later : List Label) → Type 0
  HasNoRace e known [] = Unit {0}
  HasNoRace e known (f ∷ fs) =
      (OneComesBefore known f × HasNoRace e (f ∷ known) fs) ⊎ ((m.clash e f ≡ false) × HasNoRace e known fs)

  -- the same holds for each step of a run
  abbrev pub IsRaceFree : List Label → Type 0
  IsRaceFree [] = Unit {0}
  IsRaceFree (e ∷ es) = HasNoRace e (e ∷ []) es × IsRaceFree es

  -- no step of a run may take another agent's step away
  abbrev pub TakesNothing : List Label → Type 0
  TakesNothing [] = Unit {0}
  TakesNothing (e ∷ es) = (m.stops e ≡ false) × TakesNothing es

-- the machine by other leads
abbrev pub with_leads : {State Agent Label : Type 0} → Agents State Agent Label → (Label → Label → Bool)
    → Agents State Agent Label
with_leads m leads = record m { leads = leads }

-- a run without a race by fewer leads has none
abbrev pub FewerLeadsAreEnough : (State Agent Label : Type 0) → Type 0
FewerLeadsAreEnough State Agent Label =
    (m : Agents State Agent Label) (leads : Label → Label → Bool) (steps : List Label)
    → ((e f : Label) → leads e f ≡ true → m.leads e f ≡ true) → IsRaceFree (with_leads m leads) steps
    → IsRaceFree m steps
