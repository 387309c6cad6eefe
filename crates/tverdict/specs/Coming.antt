-- Agents that come.
-- Source: own choice.
use Rattle.std.specs.Prelude.{ℕ, ◌≡◌, ◌≢◌, ◌<◌, ◌⊎◌, [], ◌∷◌, ◌++◌, length, Option, Some, None, slice_get, slice_set}
use Rattle.tclocks.specs.Checks.{KnowsAll, with_agent, with_cleared, with_slot}
use Rattle.tcertify.specs.Finding.{IsFound}
use Rattle.tverdict.specs.declared.agent.Agent.{Agent}
use Rattle.tverdict.specs.declared.machine.Machine.{Machine}
use Rattle.tverdict.specs.Agents.{IsEnded, IsMet}

-- an agent has come under this number, with a clock and a slot, and may have a step
pub record AddsAgent (old : Machine) (agent : Agent) (number : ℕ) (new : Machine) : Type 0 where
  pub last : number ≡ length old.agents.items
  pub agents : new.agents.items ≡ old.agents.items ++ agent ∷ []
  pub check : new.check ≡ with_slot (with_agent old.check)
  pub candidates : new.candidates.items ≡ old.candidates.items ++ number ∷ []
  pub same : new ≡ record old { agents = new.agents; hints = new.hints; check = new.check; candidates = new.candidates }

-- each number has its clock and its slot, and this is one
pub record HasClocks (m : Machine) (number : ℕ) : Type 0 where
  pub clocks : length m.check.clocks ≡ length m.agents.items
  pub slots : length m.check.slots ≡ length m.agents.items
  pub low : number < length m.agents.items

-- another number is that of a process that has ended, and the clock of this one has counted all steps with it
pub record MayBeTaken (m : Machine) (number taken : ℕ) : Type 0 where
  pub other : taken ≢ number
  pub holder : Agent
  pub had : slice_get m.agents.items taken ≡ Some holder
  pub ended : IsEnded m.nodes.items holder
  pub known : KnowsAll m.check number taken

-- an agent has come under such a number, in the place of the process, with an empty slot, and may have a step
pub record TakesNumber (old : Machine) (number : ℕ) (agent : Agent) (taken : ℕ) (new : Machine) : Type 0 where
  pub free : MayBeTaken old number taken
  pub agents : new.agents.items ≡ slice_set old.agents.items taken agent
  pub check : new.check ≡ with_cleared taken old.check
  pub candidates : new.candidates.items ≡ old.candidates.items ++ taken ∷ []
  pub same : new ≡ record old {
    agents = new.agents;
    hints = new.hints;
    spare = new.spare;
    check = new.check;
    candidates = new.candidates;
  }

-- an agent has come, with a number of its own, or with one that it may take since the agent of this number did the last
-- step
abbrev pub Comes : Machine → (number : ℕ) → Agent → (to : ℕ) → Machine → Type 0
Comes old number agent to new = AddsAgent old agent to new ⊎ TakesNumber old number agent to new

-- an agent was not found, and has not ended
pub record IsMissing (m : Machine) (agent : Agent) : Type 0 where
  pub none : IsFound (λ a. a) agent m.agents.items None
  pub lives : IsEnded m.nodes.items agent → ⊥

-- an agent to which the last step leads has this number: it was found before, or it has come
abbrev pub HasCome : Machine → (number : ℕ) → Agent → (to : ℕ) → Machine → Type 0
HasCome old number agent to new =
    ((new ≡ old) × (slice_get old.agents.items to ≡ Some agent)) ⊎ (IsMissing old agent × Comes old number agent to new)

-- it has a number, or it has ended and has none
abbrev pub HasComeIfLives : Machine → (number : ℕ) → Agent → Option ℕ → Machine → Type 0
HasComeIfLives old number agent (Some to) new = HasCome old number agent to new
HasComeIfLives old number agent None new = new ≡ old

-- an agent was found before, or has ended, or has come with a number of its own
abbrev pub Meets : Machine → Agent → Machine → Type 0
Meets old agent new =
    ((new ≡ old) × IsMet old.nodes.items old.agents.items agent)
    ⊎ (IsMissing old agent × ((number : ℕ) × AddsAgent old agent number new))
