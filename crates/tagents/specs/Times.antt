-- What clocks tell of chains: a step is chained to one whose clock has counted it.
-- Source: own choice, after Fidge and Mattern (1988).
use Rattle.std.specs.Prelude.{◌≡◌, ◌<◌, ◌≤◌, ◌⊎◌, Bool, true, false, ◌&&◌, ◌||◌, nat_le, List, [], ◌∷◌, ◌++◌}
use Rattle.std.specs.Prelude.{reverse}
use Rattle.std.specs.List.{count_by}
use Rattle.tagents.specs.Agents.{Agents}
use Rattle.tagents.specs.Races.{with_leads}
use Rattle.tagents.specs.Clocks.{Entry, OneKnows, NoneKnows, AreClocked, labels}
use Rattle.tagents.specs.Tables.{Accesses, AreChecked}
use Rattle.tagents.specs.Chains.{IsChained}
use Rattle.tagents.specs.Crowds.{HaveEnded}
use Rattle.tagents.specs.PlaceTurns.{IsAfterLast}

module _ {State Agent Label : Type 0} (m : Agents State Agent Label) where
  -- a step has its place in its agent's count, and its clock, as IsClocked asks for, whatever it clashes with
  pub record IsTimed (earlier : List (Entry Agent Label)) (f : Entry Agent Label) : Type 0 where
    pub counted : 0 < f.place
    pub fresh : NoneKnows m earlier (m.agent_of f.label) f.place
    pub knows : (a : Agent) → m.same a (m.agent_of f.label) ≡ false
        → (f.past a ≡ 0) ⊎ OneKnows m earlier f.label a (f.past a)

  -- each of these later steps has, where the earlier ones stand with the last one first
  abbrev pub AreTimed : (earlier later : List (Entry Agent Label)) → Type 0
  AreTimed earlier [] = Unit {0}
  AreTimed earlier (f ∷ fs) = IsTimed earlier f × AreTimed (f ∷ earlier) fs

-- steps with clocks that tell races have their times, and so have those of a check in one pass
pub record HaveTimes {State Agent Label Place Mode : Type 0} (m : Agents State Agent Label)
    (accesses : Accesses Place Mode Label) (entries : List (Entry Agent Label)) : Type 0 where
  pub clocked : AreClocked m [] entries → AreTimed m [] entries
  pub checked : AreChecked m accesses [] (λ p k a. 0) entries → AreTimed m [] entries

-- this holds of all steps
abbrev pub RunsHaveTimes : (State Agent Label Place Mode : Type 0) → Type 0
RunsHaveTimes State Agent Label Place Mode =
    (m : Agents State Agent Label) (accesses : Accesses Place Mode Label) (entries : List (Entry Agent Label))
    → HaveTimes m accesses entries

-- a step is chained to a later one whose clock has counted it
abbrev pub ClocksTellChains : (State Agent Label : Type 0) → Type 0
ClocksTellChains State Agent Label =
    (m : Agents State Agent Label) (earlier between later : List (Entry Agent Label)) (e f : Entry Agent Label)
    → AreTimed m [] (earlier ++ e ∷ (between ++ f ∷ later)) → e.place ≤ f.past (m.agent_of e.label)
    → IsChained m e.label (labels between) f.label

-- a step ends something, and the clock of a later one has counted it
abbrev pub is_known_end : {State Agent Label : Type 0} → Agents State Agent Label → (ends : Label → Bool)
    → (later earlier : Entry Agent Label) → Bool
is_known_end m ends f e = ends e.label && nat_le e.place (f.past (m.agent_of e.label))

-- so the clock of a step tells how many have ended that are chained to it
abbrev pub ClocksTellEnds : (State Agent Label : Type 0) → Type 0
ClocksTellEnds State Agent Label =
    (m : Agents State Agent Label) (ends : Label → Bool) (earlier later : List (Entry Agent Label))
    (f : Entry Agent Label) → AreTimed m [] (earlier ++ f ∷ later)
    → HaveEnded m ends (labels earlier) f.label (count_by (is_known_end m ends f) earlier)

-- of these steps, the last one first, the last one that takes or frees a place, if there is one, has been counted by
-- the clock of a later step
abbrev pub HasCountedLast : {State Agent Label : Type 0} → Agents State Agent Label → (begins ends : Label → Bool)
    → List (Entry Agent Label) → Entry Agent Label → Type 0
HasCountedLast m begins ends [] f = Unit {0}
HasCountedLast m begins ends (e ∷ es) f =
    (((begins e.label || ends e.label) ≡ true) × (e.place ≤ f.past (m.agent_of e.label)))
    ⊎ (((begins e.label || ends e.label) ≡ false) × HasCountedLast m begins ends es f)

-- so it tells that this step comes after that one
abbrev pub ClocksTellPlaceTurns : (State Agent Label : Type 0) → Type 0
ClocksTellPlaceTurns State Agent Label =
    (m : Agents State Agent Label) (begins ends : Label → Bool) (earlier : List (Entry Agent Label))
    (f : Entry Agent Label) → AreTimed m [] (reverse (f ∷ earlier)) → HasCountedLast m begins ends earlier f
    → IsAfterLast m begins ends (labels earlier) [] f.label

-- what is chained by fewer leads is chained
abbrev pub FewerLeadsTellChains : (State Agent Label : Type 0) → Type 0
FewerLeadsTellChains State Agent Label =
    (m : Agents State Agent Label) (leads : Label → Label → Bool) (e : Label) (between : List Label) (f : Label)
    → ((z g : Label) → leads z g ≡ true → m.leads z g ≡ true) → IsChained (with_leads m leads) e between f
    → IsChained m e between f
