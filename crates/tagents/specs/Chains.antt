-- Chains of steps: a run has no race exactly if a chain leads from each step to each later one that it clashes with.
-- Source: own choice, after Lamport, Time, clocks, and the ordering of events in a distributed system (1978).
use Rattle.std.specs.Prelude.{◌≡◌, ◌⊎◌, ◌↔◌, true, List, [], ◌∷◌, ◌++◌, reverse}
use Rattle.tagents.specs.Agents.{Agents}
use Rattle.tagents.specs.Races.{ComesBefore, IsRaceFree}

module _ {State Agent Label : Type 0} (m : Agents State Agent Label) where
  -- a chain leads from the first step to the last, directly or through some of those between them, which stand in the
  -- order of the run: each step of it comes before the next one
  abbrev pub IsChained : Label → (between : List Label) → Label → Type 0
  IsChained e [] f = ComesBefore m e f
  IsChained e (g ∷ between) f = (ComesBefore m e g × IsChained g between f) ⊎ IsChained e between f

  -- a chain leads to f from each of the steps before it, the last one first, of which this holds
  abbrev pub ChainsLead : (Label → Type 0) → (earlier : List Label) → Label → Type 0
  ChainsLead P earlier f =
      (e : Label) (since before : List Label) → earlier ≡ since ++ e ∷ before → P e → IsChained e (reverse since) f

  -- a chain leads from each step of a run, the last one first, to each later one if this holds of both
  abbrev pub AreChained : (Label → Label → Type 0) → List Label → Type 0
  AreChained P [] = Unit {0}
  AreChained P (f ∷ earlier) = ChainsLead (λ e. P e f) earlier f × AreChained P earlier

-- a run has no race exactly if its clashes are chained
abbrev pub ChainsTellRaces : (State Agent Label : Type 0) → Type 0
ChainsTellRaces State Agent Label =
    (m : Agents State Agent Label) (steps : List Label)
    → IsRaceFree m steps ↔ AreChained m (λ e f. m.clash e f ≡ true) (reverse steps)
