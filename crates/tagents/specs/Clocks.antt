-- Vector clocks: each step has its place in its agent's count, and knows for each agent how far in its count the steps
-- are that come before it. The count has to rise only after a step that leads to a step of another agent.
-- Source: own choice, after Fidge and Mattern (1988), and Flanagan and Freund, FastTrack (2009).
use Rattle.std.specs.Prelude.{ℕ, ◌≡◌, ◌<◌, ◌≤◌, ◌⊎◌, true, false, List, [], ◌∷◌}
use Rattle.tagents.specs.Agents.{Agents}
use Rattle.tagents.specs.Races.{ComesBefore, IsRaceFree}

-- a step with its place and what it knows
pub record Entry (Agent Label : Type 0) : Type 0 where
  pub label : Label
  pub place : ℕ
  pub past : Agent → ℕ

module _ {State Agent Label : Type 0} (m : Agents State Agent Label) where
  -- one of these comes before the step and knows as much of the agent
  abbrev pub OneKnows : List (Entry Agent Label) → Label → Agent → ℕ → Type 0
  OneKnows [] f a n = ⊥
  OneKnows (z ∷ zs) f a n = (ComesBefore m z.label f × (n ≤ z.past a)) ⊎ OneKnows zs f a n

  -- the step comes only before steps of this agent
  abbrev pub IsPrivate : Label → Agent → Type 0
  IsPrivate e a = (g : Label) → ComesBefore m e g → m.same a (m.agent_of g) ≡ true

  -- none of these knows that the agent has counted so far, except for those that lead to no step of another agent
  abbrev pub NoneKnows : List (Entry Agent Label) → Agent → ℕ → Type 0
  NoneKnows [] a n = Unit {0}
  NoneKnows (z ∷ zs) a n = ((z.past a < n) ⊎ IsPrivate z.label a) × NoneKnows zs a n

  -- each of these that clashes with the step is known to it
  abbrev pub KnowsClashes : List (Entry Agent Label) → Entry Agent Label → Type 0
  KnowsClashes [] f = Unit {0}
  KnowsClashes (z ∷ zs) f =
      (m.clash z.label f.label ≡ true → z.place ≤ f.past (m.agent_of z.label)) × KnowsClashes zs f

  -- what a step has to know, and what it may not, where these came before it in the run
  pub record IsClocked (earlier : List (Entry Agent Label)) (f : Entry Agent Label) : Type 0 where
    pub counted : 0 < f.place
    pub fresh : NoneKnows earlier (m.agent_of f.label) f.place
    pub knows : (a : Agent) → m.same a (m.agent_of f.label) ≡ false
        → (f.past a ≡ 0) ⊎ OneKnows earlier f.label a (f.past a)
    pub clashes : KnowsClashes earlier f

  abbrev pub AreClocked : (earlier later : List (Entry Agent Label)) → Type 0
  AreClocked earlier [] = Unit {0}
  AreClocked earlier (f ∷ fs) = IsClocked earlier f × AreClocked (f ∷ earlier) fs

abbrev pub labels : {Agent Label : Type 0} → List (Entry Agent Label) → List Label
labels [] = []
labels (z ∷ zs) = z.label ∷ labels zs

-- so clocks tell that a run has no race
abbrev pub ClocksTellRaces : (State Agent Label : Type 0) → Type 0
ClocksTellRaces State Agent Label =
    (m : Agents State Agent Label) (entries : List (Entry Agent Label)) → AreClocked m [] entries
    → IsRaceFree m (labels entries)
