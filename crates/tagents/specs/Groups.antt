-- Agents that share a number, and are taken for one agent: a run that has no race by numbers has none, if agents have
-- their number in turn, so that chains lead from the steps of one to those of the next. (Turns at a place are in
-- PlaceTurns.)
-- Source: own choice.
use Rattle.std.specs.Prelude.{ℕ, ◌≡◌, ◌≢◌, ◌==◌, true, false, List, [], ◌∷◌, ◌++◌, reverse, None}
use Rattle.tagents.specs.Agents.{Agents}
use Rattle.tagents.specs.Races.{ComesBefore, IsRaceFree}
use Rattle.tagents.specs.Chains.{IsChained, ChainsLead, AreChained}

-- the machine with numbers for agents, so that those that share a number are one; races do not depend on what it does
-- next
abbrev pub grouped : {State Agent Label : Type 0} → Agents State Agent Label → (Label → ℕ) → Agents State ℕ Label
grouped m group =
    record {
      next = λ n s. None;
      agent_of = group;
      same = λ n k. n == k;
      clash = m.clash;
      leads = m.leads;
      stops = m.stops;
    }

-- none of these steps has the number
abbrev pub NoneHas : {Label : Type 0} → (Label → ℕ) → ℕ → List Label → Type 0
NoneHas group n [] = Unit {0}
NoneHas group n (e ∷ es) = (group e ≢ n) × NoneHas group n es

-- other numbers, which agree on these steps
abbrev pub AgreeOn : {Label : Type 0} → (group more : Label → ℕ) → List Label → Type 0
AgreeOn group more [] = Unit {0}
AgreeOn group more (e ∷ es) = (more e ≡ group e) × AgreeOn group more es

module _ {State Agent Label : Type 0} (m : Agents State Agent Label) (group : Label → ℕ) where
  -- two steps have the same number, and are of different agents
  abbrev pub AreOfOthers : Label → Label → Type 0
  AreOfOthers e f = (group e ≡ group f) × (m.same (m.agent_of e) (m.agent_of f) ≡ false)

  -- in a run, the last step first, a chain leads from each step to each later one of another agent with its number
  abbrev pub AreInTurn : List Label → Type 0
  AreInTurn steps = AreChained m AreOfOthers steps

  -- of these steps, the last one first, the last one with the number is the agent's
  pub record IsHeld (n : ℕ) (a : Agent) (steps : List Label) : Type 0 where
    pub since : List Label
    pub last : Label
    pub before : List Label
    pub at : steps ≡ since ++ last ∷ before
    pub none : NoneHas group n since
    pub number : group last ≡ n
    pub agent : m.agent_of last ≡ a

  -- whoever comes after this step may have the number: chains lead to it from each earlier step with the number, and
  -- no later one has it
  pub record IsFree (n : ℕ) (last : Label) (steps : List Label) : Type 0 where
    pub since : List Label
    pub before : List Label
    pub at : steps ≡ since ++ last ∷ before
    pub none : NoneHas group n since
    pub known : ChainsLead m (λ e. group e ≡ n) before last

  -- after these steps, the last one first, the next one may have its number
  pub data HasNumberTurn (steps : List Label) (f : Label) : Type 0 where
    -- no step has it
    First : NoneHas group (group f) steps → HasNumberTurn steps f
    -- its agent did the last step with it
    Own : IsHeld (group f) (m.agent_of f) steps → HasNumberTurn steps f
    -- it comes after a step since which the number is free
    Next : (last : Label) → ComesBefore m last f → IsFree (group f) last steps → HasNumberTurn steps f

  -- a run in which agents have numbers in turn, the last step first, goes on so
  pub record GoOnInTurn (steps : List Label) (f : Label) : Type 0 where
    -- if chains lead to the next step from all steps of others with its number
    pub chained : ChainsLead m (λ e. AreOfOthers e f) steps f → AreInTurn (f ∷ steps)
    -- so if it may have its number
    pub turn : m.same (m.agent_of f) (m.agent_of f) ≡ true → HasNumberTurn steps f → AreInTurn (f ∷ steps)
    -- then its agent did the last step with its number, and other numbers are held and free as before
    pub held : IsHeld (group f) (m.agent_of f) (f ∷ steps)
    pub others_held : (n : ℕ) (a : Agent) → group f ≢ n → IsHeld n a steps → IsHeld n a (f ∷ steps)
    pub others_free : (n : ℕ) (last : Label) → group f ≢ n → IsFree n last steps → IsFree n last (f ∷ steps)

-- what is known by some numbers is known by others that agree on the steps
pub record AreAlike {State Agent Label : Type 0} (m : Agents State Agent Label) (group more : Label → ℕ)
    (steps : List Label) : Type 0 where
  pub none : (n : ℕ) → NoneHas group n steps → NoneHas more n steps
  pub turns : AreInTurn m group steps → AreInTurn m more steps
  pub held : (n : ℕ) (a : Agent) → IsHeld m group n a steps → IsHeld m more n a steps
  pub free : (n : ℕ) (last : Label) → IsFree m group n last steps → IsFree m more n last steps

-- a run that has no race if agents with one number are one has none, if these have it in turn
abbrev pub GroupedRunsHaveNoRace : (State Agent Label : Type 0) → Type 0
GroupedRunsHaveNoRace State Agent Label =
    (m : Agents State Agent Label) (group : Label → ℕ) (steps : List Label) → AreInTurn m group (reverse steps)
    → IsRaceFree (grouped m group) steps → IsRaceFree m steps

-- how a run may go on
abbrev pub RunsGoOnInTurn : (State Agent Label : Type 0) → Type 0
RunsGoOnInTurn State Agent Label =
    (m : Agents State Agent Label) (group : Label → ℕ) (steps : List Label) (f : Label)
    → AreInTurn m group steps → GoOnInTurn m group steps f

-- where agents have numbers in turn, each chain of the machine with numbers is a chain of the machine; the steps stand
-- with the last one first
abbrev pub GroupedChainsAreChains : (State Agent Label : Type 0) → Type 0
GroupedChainsAreChains State Agent Label =
    (m : Agents State Agent Label) (group : Label → ℕ) (since before : List Label) (e f : Label)
    → AreInTurn m group (f ∷ (since ++ e ∷ before)) → IsChained (grouped m group) e (reverse since) f
    → IsChained m e (reverse since) f

-- numbers matter only for steps that were done
abbrev pub NumbersOfStepsMatter : (State Agent Label : Type 0) → Type 0
NumbersOfStepsMatter State Agent Label =
    (m : Agents State Agent Label) (group more : Label → ℕ) (steps : List Label) → AgreeOn group more steps
    → AreAlike m group more steps
