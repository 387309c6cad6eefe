-- What the check's clocks and places have to do with the steps that it has seen.
-- Source: own choice, after Flanagan and Freund, FastTrack (2009).
use Rattle.std.specs.Prelude.{ℕ, ◌≡◌, ◌≢◌, ◌<◌, ◌≤◌, ◌⊎◌, true, List, [], ◌∷◌, Contains, length, slice_index}
use Rattle.tagents.specs.Agents.{Agents}
use Rattle.tagents.specs.Clocks.{Entry}
use Rattle.tagents.specs.Tables.{Access as PlaceAccess, Accesses, HasAccess, Table, IsChecked}
use Rattle.tclocks.specs.declared.mode.Mode.{Mode}
use Rattle.tclocks.specs.declared.step.Step.{Step}
use Rattle.tclocks.specs.declared.step.Access.{Access}
use Rattle.tclocks.specs.Modes.{collide, covers}
use Rattle.tclocks.specs.Checks.{Check, clock_of, clock_in, accesses_at, steps_of, next_step, begun, with_joined}
use Rattle.tclocks.specs.Checks.{HasCounted, IsAccessed}
use Rattle.tclocks.specs.Own.{IsOwnYet}
use Rattle.tclocks.specs.Numbers.{Numbers, AreNumbers}

-- each of a list
abbrev pub EachOf : {A : Type 0} → (A → Type 0) → List A → Type 0
EachOf P [] = Unit {0}
EachOf P (x ∷ xs) = P x × EachOf P xs

-- one of a list
abbrev pub OneOf : {A : Type 0} → (A → Type 0) → List A → Type 0
OneOf P [] = ⊥
OneOf P (x ∷ xs) = P x ⊎ OneOf P xs

-- the agent joins the clocks in these slots
abbrev pub with_all_joined : ℕ → List ℕ → Check → Check
with_all_joined agent [] check = check
with_all_joined agent (slot ∷ slots) check = with_all_joined agent slots (with_joined agent slot check)

-- accesses of a step, one after another
abbrev pub AreAccessed : Step → List (PlaceAccess ℕ Mode) → Check → Check → Type 0
AreAccessed step [] before after = after ≡ before
AreAccessed step (access ∷ rest) before after =
    (between : Check) × IsAccessed step access before between × AreAccessed step rest between after

-- one of these accesses is to the place, and what collides with one of this mode collides with it
abbrev pub HasCover : List (PlaceAccess ℕ Mode) → ℕ → Mode → Type 0
HasCover [] place mode = ⊥
HasCover (x ∷ xs) place mode = ((x.place ≡ place) × (covers x.mode mode ≡ true)) ⊎ HasCover xs place mode

-- a step of an agent: it begins, joins the clocks in these slots, and makes these accesses
abbrev pub IsStep : ℕ → List ℕ → List (PlaceAccess ℕ Mode) → Check → Check → Type 0
IsStep agent slots done before after =
    AreAccessed (next_step before agent) done (with_all_joined agent slots (begun agent before)) after

-- how many steps of an agent a clock has counted
abbrev pub counted : {Agent Place Kind : Type 0} → Numbers Agent Place Kind → List ℕ → Agent → ℕ
counted numbers clock a = slice_index clock (numbers.agent a)

-- a clock knows of no step that was not begun
abbrev pub IsWithin : Check → List ℕ → Type 0
IsWithin check clock = (agent : ℕ) → slice_index clock agent ≤ steps_of check agent

-- a clock that has counted the step has counted n steps of the agent too
abbrev pub CountsToo : Step → ℕ → ℕ → List ℕ → Type 0
CountsToo step agent n clock = step.number ≤ slice_index clock step.agent → n ≤ slice_index clock agent

-- this holds of the clock of each agent, and of the clock in each slot
pub record EachClock (P : List ℕ → Type 0) (check : Check) : Type 0 where
  pub agents : (agent : ℕ) → P (clock_of check agent)
  pub slots : (slot : ℕ) → P (clock_in check slot)

-- one of the accesses that are kept collides with all that one of this mode collides with, and whoever knows of it
-- knows that the agent has done n steps
abbrev pub IsCovered : Check → List Access → Mode → ℕ → ℕ → Type 0
IsCovered check kept mode agent n = (n ≡ 0)
    ⊎ ((access : Access) × Contains kept access × (covers access.mode mode ≡ true)
    × EachClock (CountsToo access.step agent n) check)

-- of two accesses that are kept and collide, the agent of one knows of the other
abbrev pub AreOrdered : Check → List Access → Type 0
AreOrdered check kept = (x y : Access) → Contains kept x → Contains kept y → collide x.mode y.mode ≡ true
    → HasCounted check x.step.agent y.step ⊎ HasCounted check y.step.agent x.step

module _ {State Agent Label Place Kind : Type 0} (m : Agents State Agent Label)
    (numbers : Numbers Agent Place Kind) where
  -- a step with its agent's number and clock, as they are when it ends
  abbrev pub entry_of : Label → Check → Entry Agent Label
  entry_of label check = record {
    label = label;
    place = steps_of check (numbers.agent (m.agent_of label));
    past = counted numbers (clock_of check (numbers.agent (m.agent_of label)));
  }

  -- what the clock of an agent knows of others, a step of its own knew before
  pub record IsClockOf (entries : List (Entry Agent Label)) (check : Check) (agent : ℕ) (clock : List ℕ) : Type 0 where
    pub long : agent < length clock
    pub within : IsWithin check clock
    pub known : (a : Agent) → numbers.agent a ≢ agent → (counted numbers clock a ≡ 0)
        ⊎ OneOf (λ z. (numbers.agent (m.agent_of z.label) ≡ agent) × (counted numbers clock a ≤ z.past a)) entries

  -- what the clock in a slot knows, one of the steps that wrote it knew
  pub record IsClockBy (entries : List (Entry Agent Label)) (check : Check) (writers : List Label) (clock : List ℕ)
      : Type 0 where
    pub within : IsWithin check clock
    pub known : (a : Agent) → (counted numbers clock a ≡ 0)
        ⊎ OneOf (λ z. OneOf (λ writer. writer ≡ z.label) writers × (counted numbers clock a ≤ z.past a)) entries

module _ {State Agent Label Place Kind : Type 0} (m : Agents State Agent Label) (accesses : Accesses Place Kind Label)
    (numbers : Numbers Agent Place Kind) where
  -- steps that were checked one after another, the last one first
  abbrev pub HavePassed : List (Entry Agent Label) → Table m accesses → Type 0
  HavePassed [] table = table ≡ (λ p k a. 0)
  HavePassed (f ∷ earlier) table =
      (before : Table m accesses) × IsChecked m accesses earlier before f table × HavePassed earlier before

  -- the check has seen these steps, the last one first; the clock in each slot was written by steps with these labels
  pub record Follows (entries : List (Entry Agent Label)) (table : Table m accesses) (writers : ℕ → List Label)
      (check : Check) : Type 0 where
    pub numbered : AreNumbers m accesses numbers check
    pub passed : HavePassed entries table
    pub agents : EachOf (λ z. numbers.agent (m.agent_of z.label) < length check.clocks) entries
    pub places : EachOf (λ z. z.place ≤ steps_of check (numbers.agent (m.agent_of z.label))) entries
    pub pasts : EachOf (λ z. (a : Agent) → z.past a ≤ steps_of check (numbers.agent a)) entries
    pub clocks : (agent : ℕ) → agent < length check.clocks
        → IsClockOf m numbers entries check agent (clock_of check agent)
    pub slots : (slot : ℕ) → IsClockBy m numbers entries check (writers slot) (clock_in check slot)
    pub tables : (p : Place) (k : Kind) (a : Agent) → table p k a ≤ steps_of check (numbers.agent a)
    pub kept : (place : ℕ) (access : Access) → Contains (accesses_at check place) access
        → access.step.number ≤ steps_of check access.step.agent
    pub covered : (p : Place) (k : Kind) (a : Agent)
        → IsCovered check (accesses_at check (numbers.place p)) (numbers.mode p k) (numbers.agent a) (table p k a)
    pub ordered : (place : ℕ) → AreOrdered check (accesses_at check place)

  -- a step of the machine was told to the check: its agent, slots that were written by steps that lead to it, and all
  -- of its accesses
  pub record IsTold (check : Check) (writers : ℕ → List Label) (agent : ℕ) (slots : List ℕ)
      (done : List (PlaceAccess ℕ Mode)) (label : Label) : Type 0 where
    pub by : numbers.agent (m.agent_of label) ≡ agent
    pub added : agent < length check.clocks
    pub leads : EachOf (λ slot. EachOf (λ z. m.leads z label ≡ true) (writers slot)) slots
    pub all : (p : Place) (k : Kind) → HasAccess (accesses.of label) p k
        → HasAccess done (numbers.place p) (numbers.mode p k)

  -- the same, where each of its accesses is covered by one of these, or by an earlier one of its number of which nobody
  -- else knows
  pub record IsToldByCover (check : Check) (writers : ℕ → List Label) (agent : ℕ) (slots : List ℕ)
      (done : List (PlaceAccess ℕ Mode)) (label : Label) : Type 0 where
    pub by : numbers.agent (m.agent_of label) ≡ agent
    pub added : agent < length check.clocks
    pub leads : EachOf (λ slot. EachOf (λ z. m.leads z label ≡ true) (writers slot)) slots
    pub all : (p : Place) (k : Kind) → HasAccess (accesses.of label) p k
        → HasCover done (numbers.place p) (numbers.mode p k)
        ⊎ IsOwnYet check agent (numbers.place p) (numbers.mode p k)
