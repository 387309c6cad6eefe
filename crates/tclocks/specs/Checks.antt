-- What the check of a run keeps, and what each of its calls does to it.
-- Source: own choice, after Flanagan and Freund, FastTrack (2009).
use Rattle.std.specs.Prelude.{ℕ, ◌≡◌, ◌+◌, ◌<◌, ◌≤◌, List, [], ◌∷◌, ◌++◌, None, length, replicate, slice_index}
use Rattle.std.specs.Prelude.{slice_index_or, slice_set, suc, zero}
use Rattle.tagents.specs.Tables.{Access as PlaceAccess}
use Rattle.tclocks.specs.declared.mode.Mode.{Mode}
use Rattle.tclocks.specs.declared.step.Step.{Step}
use Rattle.tclocks.specs.declared.step.Access.{Access}
use Rattle.tclocks.specs.Clocks.{joined, raised}
use Rattle.tclocks.specs.Places.{first_race, NotesAccess}

-- the clock of each agent, the clock in each slot, and the accesses that are kept of each place, all by number
pub record Check : Type 0 where
  pub clocks : List (List ℕ)
  pub slots : List (List ℕ)
  pub places : List (List Access)

-- nothing was checked, and nobody is there
abbrev pub nothing_checked : Check
nothing_checked = record { clocks = []; slots = []; places = [] }

-- the clock of an agent
abbrev pub clock_of : Check → ℕ → List ℕ
clock_of check agent = slice_index_or check.clocks agent []

-- the clock in a slot
abbrev pub clock_in : Check → ℕ → List ℕ
clock_in check slot = slice_index_or check.slots slot []

-- the accesses that are kept of a place
abbrev pub accesses_at : Check → ℕ → List Access
accesses_at check place = slice_index_or check.places place []

-- how many steps an agent has done
abbrev pub steps_of : Check → ℕ → ℕ
steps_of check agent = slice_index (clock_of check agent) agent

-- the clock of an agent has counted a step
abbrev pub HasCounted : Check → ℕ → Step → Type 0
HasCounted check agent step = step.number ≤ slice_index (clock_of check agent) step.agent

-- the last step that an agent has begun, with number 0 if it has begun none
abbrev pub last_step : Check → ℕ → Step
last_step check agent = record { agent = agent; number = steps_of check agent }

-- the clock of an agent has counted all steps that the other one has done
abbrev pub KnowsAll : Check → ℕ → ℕ → Type 0
KnowsAll check agent other = steps_of check other ≤ slice_index (clock_of check agent) other

-- one more agent, which has done nothing
abbrev pub with_agent : Check → Check
with_agent check = record check { clocks = check.clocks ++ replicate (length check.clocks + 1) 0 ∷ [] }

-- one more slot, with an empty clock
abbrev pub with_slot : Check → Check
with_slot check = record check { slots = check.slots ++ [] ∷ [] }

-- a check with `count` places more, which nothing has accessed
abbrev pub with_places : ℕ → Check → Check
with_places count check = record check { places = check.places ++ replicate count [] }

-- the next step of an agent
abbrev pub next_step : Check → ℕ → Step
next_step check agent = record { agent = agent; number = steps_of check agent + 1 }

-- the agent's next step is begun
abbrev pub begun : ℕ → Check → Check
begun agent check = record check { clocks = slice_set check.clocks agent (raised (clock_of check agent) agent) }

-- the agent's next so many steps are begun, one after another
abbrev pub begun_times : (count agent : ℕ) → Check → Check
begun_times zero agent check = check
begun_times (suc count) agent check = begun agent (begun_times count agent check)

-- the agent knows what the clock in the slot knows
abbrev pub with_joined : ℕ → ℕ → Check → Check
with_joined agent slot check =
    record check { clocks = slice_set check.clocks agent (joined (clock_of check agent) (clock_in check slot)) }

-- the clock in the slot is that of the agent
abbrev pub with_handed : ℕ → ℕ → Check → Check
with_handed agent slot check = record check { slots = slice_set check.slots slot (clock_of check agent) }

-- the clock in the slot knows also what the agent knows
abbrev pub with_added : ℕ → ℕ → Check → Check
with_added agent slot check =
    record check { slots = slice_set check.slots slot (joined (clock_in check slot) (clock_of check agent)) }

-- the clock in the slot is empty
abbrev pub with_cleared : ℕ → Check → Check
with_cleared slot check = record check { slots = slice_set check.slots slot [] }

-- an access of a step: it races with none that is kept, and it is noted at its place
pub record IsAccessed (step : Step) (access : PlaceAccess ℕ Mode) (before after : Check) : Type 0 where
  pub permitted : first_race step.agent (clock_of before step.agent) access.mode (accesses_at before access.place)
      ≡ None
  pub noted : NotesAccess (clock_of before step.agent) (record { mode = access.mode; step = step })
      (accesses_at before access.place) (accesses_at after access.place)
  pub only : after ≡ record before
      { places = slice_set before.places access.place (accesses_at after access.place) }

-- the clock of each agent has a count for the agent itself
abbrev pub CountThemselves : List (List ℕ) → Type 0
CountThemselves clocks = (agent : ℕ) → agent < length clocks → agent < length (slice_index_or clocks agent [])
