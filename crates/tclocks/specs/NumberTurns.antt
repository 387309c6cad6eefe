-- Agents that share a number in the check: it sees their steps as those of one agent. A number may be used again by an
-- agent that comes after a step whose clock has counted all steps with the number.
-- Source: own choice.
use Rattle.std.specs.Prelude.{ℕ, ◌≡◌, ◌<◌, ◌≤◌, true, List, [], ◌∷◌, ◌++◌, length, reverse}
use Rattle.tagents.specs.Agents.{Agents}
use Rattle.tagents.specs.Clocks.{Entry, labels}
use Rattle.tagents.specs.Groups.{grouped, NoneHas, AgreeOn, AreInTurn, IsHeld, IsFree, HasNumberTurn}
use Rattle.tagents.specs.Races.{ComesBefore, IsRaceFree}
use Rattle.tagents.specs.Tables.{Access as PlaceAccess, Accesses, ClashesCollide}
use Rattle.tclocks.specs.declared.mode.Mode.{Mode}
use Rattle.tclocks.specs.Modes.{collide}
use Rattle.tclocks.specs.Checks.{Check, KnowsAll}
use Rattle.tclocks.specs.Numbers.{Numbers, AreNumbers}
use Rattle.tclocks.specs.Followed.{EachOf, IsStep, IsToldByCover, entry_of}
use Rattle.tclocks.specs.Laws.{HasSeen}

-- the numbers of a machine whose agents are their numbers
abbrev pub numbers_of : {Place Kind : Type 0} → (Place → ℕ) → (Place → Kind → Mode) → Numbers ℕ Place Kind
numbers_of places modes = record { agent = λ n. n; place = places; mode = modes }

module _ {State Agent Label Place Kind : Type 0} (m : Agents State Agent Label) (group : Label → ℕ)
    (accesses : Accesses Place Kind Label) (places : Place → ℕ) (modes : Place → Kind → Mode) where
  -- the check has seen these steps, the last one first, by numbers that their agents had in turn
  pub record HasSeenInTurn (entries : List (Entry ℕ Label)) (writers : ℕ → List Label) (check : Check) : Type 0 where
    pub seen : HasSeen (grouped m group) accesses (numbers_of places modes) entries writers check
    pub turns : AreInTurn m group (labels entries)

  -- a step with its number and clock, as they are when it ends
  abbrev pub grouped_entry : Label → Check → Entry ℕ Label
  grouped_entry label check = entry_of (grouped m group) (numbers_of places modes) label check

module _ {State Agent Label : Type 0} (m : Agents State Agent Label) (group : Label → ℕ) where
  -- after these steps, the last one first, the next one may have its number, as clocks tell
  pub data IsNumbered (earlier : List (Entry ℕ Label)) (f : Label) : Type 0 where
    -- no step has it
    First : NoneHas group (group f) (labels earlier) → IsNumbered earlier f
    -- its agent did the last step with it
    Own : IsHeld m group (group f) (m.agent_of f) (labels earlier) → IsNumbered earlier f
    -- it comes after a step whose clock has counted all earlier ones with the number, and no later one has it
    Next : (since : List (Entry ℕ Label)) (last : Entry ℕ Label) (before : List (Entry ℕ Label))
        → earlier ≡ since ++ last ∷ before → NoneHas group (group f) (labels since) → ComesBefore m last.label f
        → EachOf (λ z. group z.label ≡ group f → z.place ≤ last.past (group f)) before → IsNumbered earlier f

  -- the same holds for each of these steps, the last one first
  abbrev pub AreNumbered : List (Entry ℕ Label) → Type 0
  AreNumbered [] = Unit {0}
  AreNumbered (f ∷ earlier) = IsNumbered earlier f.label × AreNumbered earlier

-- kinds of accesses that collide need modes that collide, and no more
abbrev pub GroupsAreNumbered : (State Agent Label Place Kind : Type 0) → Type 0
GroupsAreNumbered State Agent Label Place Kind =
    (m : Agents State Agent Label) (group : Label → ℕ) (accesses : Accesses Place Kind Label) (places : Place → ℕ)
    (modes : Place → Kind → Mode) (check : Check)
    → ((p : Place) (j k : Kind) → accesses.collide j k ≡ true → collide (modes p j) (modes p k) ≡ true)
    → AreNumbers (grouped m group) accesses (numbers_of places modes) check

-- a step that was told to the check, and may have its number, is one more
abbrev pub StepsInTurnAreChecked : (State Agent Label Place Kind : Type 0) → Type 0
StepsInTurnAreChecked State Agent Label Place Kind =
    (m : Agents State Agent Label) (group : Label → ℕ) (accesses : Accesses Place Kind Label) (places : Place → ℕ)
    (modes : Place → Kind → Mode) (entries : List (Entry ℕ Label)) (writers : ℕ → List Label) (before after : Check)
    (agent : ℕ) (slots : List ℕ) (done : List (PlaceAccess ℕ Mode)) (label : Label)
    → HasSeenInTurn m group accesses places modes entries writers before
    → IsToldByCover (grouped m group) accesses (numbers_of places modes) before writers agent slots done label
    → IsStep agent slots done before after
    → m.same (m.agent_of label) (m.agent_of label) ≡ true → HasNumberTurn m group (labels entries) label
    → HasSeenInTurn m group accesses places modes (grouped_entry m group accesses places modes label after ∷ entries)
    writers after

-- if the agent of the last step knows all steps with a number, whoever comes after this step may have the number
abbrev pub KnownNumbersAreFree : (State Agent Label Place Kind : Type 0) → Type 0
KnownNumbersAreFree State Agent Label Place Kind =
    (m : Agents State Agent Label) (group : Label → ℕ) (accesses : Accesses Place Kind Label) (places : Place → ℕ)
    (modes : Place → Kind → Mode) (earlier : List (Entry ℕ Label)) (writers : ℕ → List Label) (check : Check)
    (label : Label) (n : ℕ)
    → HasSeenInTurn m group accesses places modes (grouped_entry m group accesses places modes label check ∷ earlier)
    writers check
    → KnowsAll check (group label) n
    → IsFree m group n label (label ∷ labels earlier)

-- agents with numbers that were not added yet may get any others
pub record MayHaveNumbers {State Agent Label Place Kind : Type 0} (m : Agents State Agent Label)
    (group more : Label → ℕ) (accesses : Accesses Place Kind Label) (places : Place → ℕ)
    (modes : Place → Kind → Mode) (entries : List (Entry ℕ Label)) (writers : ℕ → List Label) (check : Check)
    : Type 0 where
  pub agree : AgreeOn group more (labels entries)
  pub seen : HasSeenInTurn m more accesses places modes entries writers check

-- this holds of all such numbers
abbrev pub NumbersMayBeShared : (State Agent Label Place Kind : Type 0) → Type 0
NumbersMayBeShared State Agent Label Place Kind =
    (m : Agents State Agent Label) (group more : Label → ℕ) (accesses : Accesses Place Kind Label)
    (places : Place → ℕ) (modes : Place → Kind → Mode) (entries : List (Entry ℕ Label)) (writers : ℕ → List Label)
    (check : Check)
    → ((e : Label) → group e < length check.clocks → more e ≡ group e)
    → HasSeenInTurn m group accesses places modes entries writers check
    → MayHaveNumbers m group more accesses places modes entries writers check

-- the steps of agents that had numbers in turn have no race
abbrev pub StepsInTurnHaveNoRace : (State Agent Label Place Kind : Type 0) → Type 0
StepsInTurnHaveNoRace State Agent Label Place Kind =
    (m : Agents State Agent Label) (group : Label → ℕ) (accesses : Accesses Place Kind Label) (places : Place → ℕ)
    (modes : Place → Kind → Mode) (entries : List (Entry ℕ Label)) (writers : ℕ → List Label) (check : Check)
    → HasSeenInTurn m group accesses places modes entries writers check → ClashesCollide m accesses
    → IsRaceFree m (labels (reverse entries))

-- steps that the check has seen by numbers that their agents had in turn, as clocks tell
abbrev pub ClocksTellNumberTurns : (State Agent Label Place Kind : Type 0) → Type 0
ClocksTellNumberTurns State Agent Label Place Kind =
    (m : Agents State Agent Label) (group : Label → ℕ) (accesses : Accesses Place Kind Label) (places : Place → ℕ)
    (modes : Place → Kind → Mode) (entries : List (Entry ℕ Label)) (writers : ℕ → List Label) (check : Check)
    → HasSeen (grouped m group) accesses (numbers_of places modes) entries writers check
    → ((a : Agent) → m.same a a ≡ true) → AreNumbered m group entries
    → HasSeenInTurn m group accesses places modes entries writers check
