-- What the check of a run proves of it.
-- Source: own choice, after Flanagan and Freund, FastTrack (2009).
use Rattle.std.specs.Prelude.{ℕ, ◌≡◌, ◌==◌, List, [], ◌∷◌, reverse, if◌then◌else◌}
use Rattle.tagents.specs.Agents.{Agents}
use Rattle.tagents.specs.Clocks.{Entry, labels}
use Rattle.tagents.specs.Chains.{ChainsLead}
use Rattle.tagents.specs.Races.{IsRaceFree}
use Rattle.tagents.specs.Tables.{Access as PlaceAccess, Accesses, Table, AreChecked, ClashesCollide}
use Rattle.tclocks.specs.declared.mode.Mode.{Mode}
use Rattle.tclocks.specs.Checks.{Check, nothing_checked, with_agent, with_slot, with_places, with_handed, with_added}
use Rattle.tclocks.specs.Checks.{with_cleared, KnowsAll}
use Rattle.tclocks.specs.Numbers.{Numbers, AreNumbers, Extends}
use Rattle.tclocks.specs.Followed.{IsStep, entry_of, Follows, IsTold, IsToldByCover}

-- slots in which one was written by these steps
abbrev pub with_writers : {Label : Type 0} → ℕ → List Label → (ℕ → List Label) → ℕ → List Label
with_writers slot steps writers other = if other == slot then steps else writers other

module _ {State Agent Label Place Kind : Type 0} (m : Agents State Agent Label) (accesses : Accesses Place Kind Label)
    (numbers : Numbers Agent Place Kind) where
  -- the check has seen these steps, whatever its table
  pub record HasSeen (entries : List (Entry Agent Label)) (writers : ℕ → List Label) (check : Check) : Type 0 where
    pub table : Table m accesses
    pub follows : Follows m accesses numbers entries table writers check

-- a check begins with no steps
abbrev pub ChecksBegin : (State Agent Label Place Kind : Type 0) → Type 0
ChecksBegin State Agent Label Place Kind =
    (m : Agents State Agent Label) (accesses : Accesses Place Kind Label) (numbers : Numbers Agent Place Kind)
    → AreNumbers m accesses numbers nothing_checked → HasSeen m accesses numbers [] (λ slot. []) nothing_checked

-- a step that was told to the check is one more that it has seen
abbrev pub StepsAreChecked : (State Agent Label Place Kind : Type 0) → Type 0
StepsAreChecked State Agent Label Place Kind =
    (m : Agents State Agent Label) (accesses : Accesses Place Kind Label) (numbers : Numbers Agent Place Kind)
    (entries : List (Entry Agent Label)) (writers : ℕ → List Label) (before after : Check) (agent : ℕ)
    (slots : List ℕ) (done : List (PlaceAccess ℕ Mode)) (label : Label)
    → HasSeen m accesses numbers entries writers before
    → IsTold m accesses numbers before writers agent slots done label
    → IsStep agent slots done before after
    → HasSeen m accesses numbers (entry_of m numbers label after ∷ entries) writers after

-- the same for one whose accesses were told by others that cover them
abbrev pub StepsAreCheckedByCover : (State Agent Label Place Kind : Type 0) → Type 0
StepsAreCheckedByCover State Agent Label Place Kind =
    (m : Agents State Agent Label) (accesses : Accesses Place Kind Label) (numbers : Numbers Agent Place Kind)
    (entries : List (Entry Agent Label)) (writers : ℕ → List Label) (before after : Check) (agent : ℕ)
    (slots : List ℕ) (done : List (PlaceAccess ℕ Mode)) (label : Label)
    → HasSeen m accesses numbers entries writers before
    → IsToldByCover m accesses numbers before writers agent slots done label
    → IsStep agent slots done before after
    → HasSeen m accesses numbers (entry_of m numbers label after ∷ entries) writers after

-- after a step the clock of its agent may be handed on in a slot, or added to the clock there
pub record IsHandedOn {State Agent Label Place Kind : Type 0} (m : Agents State Agent Label)
    (accesses : Accesses Place Kind Label) (numbers : Numbers Agent Place Kind) (entries : List (Entry Agent Label))
    (writers : ℕ → List Label) (check : Check) (label : Label) (slot : ℕ) : Type 0 where
  pub handed : HasSeen m accesses numbers entries (with_writers slot (label ∷ []) writers)
      (with_handed (numbers.agent (m.agent_of label)) slot check)
  pub added : HasSeen m accesses numbers entries (with_writers slot (label ∷ writers slot) writers)
      (with_added (numbers.agent (m.agent_of label)) slot check)

abbrev pub ClocksAreHandedOn : (State Agent Label Place Kind : Type 0) → Type 0
ClocksAreHandedOn State Agent Label Place Kind =
    (m : Agents State Agent Label) (accesses : Accesses Place Kind Label) (numbers : Numbers Agent Place Kind)
    (earlier : List (Entry Agent Label)) (writers : ℕ → List Label) (check : Check) (label : Label) (slot : ℕ)
    → HasSeen m accesses numbers (entry_of m numbers label check ∷ earlier) writers check
    → IsHandedOn m accesses numbers (entry_of m numbers label check ∷ earlier) writers check label slot

-- a slot may be cleared
abbrev pub SlotsMayBeCleared : (State Agent Label Place Kind : Type 0) → Type 0
SlotsMayBeCleared State Agent Label Place Kind =
    (m : Agents State Agent Label) (accesses : Accesses Place Kind Label) (numbers : Numbers Agent Place Kind)
    (entries : List (Entry Agent Label)) (writers : ℕ → List Label) (check : Check) (slot : ℕ)
    → HasSeen m accesses numbers entries writers check
    → HasSeen m accesses numbers entries (with_writers slot [] writers) (with_cleared slot check)

-- agents, slots and places may be added
pub record MayGrow {State Agent Label Place Kind : Type 0} (m : Agents State Agent Label)
    (accesses : Accesses Place Kind Label) (numbers : Numbers Agent Place Kind) (entries : List (Entry Agent Label))
    (writers : ℕ → List Label) (check : Check) : Type 0 where
  pub agent : AreNumbers m accesses numbers (with_agent check)
      → HasSeen m accesses numbers entries writers (with_agent check)
  pub slot : HasSeen m accesses numbers entries writers (with_slot check)
  pub places : (count : ℕ) → HasSeen m accesses numbers entries writers (with_places count check)

abbrev pub ChecksMayGrow : (State Agent Label Place Kind : Type 0) → Type 0
ChecksMayGrow State Agent Label Place Kind =
    (m : Agents State Agent Label) (accesses : Accesses Place Kind Label) (numbers : Numbers Agent Place Kind)
    (entries : List (Entry Agent Label)) (writers : ℕ → List Label) (check : Check)
    → HasSeen m accesses numbers entries writers check → MayGrow m accesses numbers entries writers check

-- what was not yet added may get other numbers
abbrev pub NumbersMayBeGiven : (State Agent Label Place Kind : Type 0) → Type 0
NumbersMayBeGiven State Agent Label Place Kind =
    (m : Agents State Agent Label) (accesses : Accesses Place Kind Label) (numbers more : Numbers Agent Place Kind)
    (entries : List (Entry Agent Label)) (writers : ℕ → List Label) (check : Check)
    → Extends check numbers more → HasSeen m accesses numbers entries writers check
    → HasSeen m accesses more entries writers check

-- the steps that a check has seen are checked as a run is, so they have no race
pub record ArePassed {State Agent Label Place Kind : Type 0} (m : Agents State Agent Label)
    (accesses : Accesses Place Kind Label) (entries : List (Entry Agent Label)) : Type 0 where
  pub checked : AreChecked m accesses [] (λ p k a. 0) (reverse entries)
  pub race_free : ClashesCollide m accesses → IsRaceFree m (labels (reverse entries))

abbrev pub SeenStepsHaveNoRace : (State Agent Label Place Kind : Type 0) → Type 0
SeenStepsHaveNoRace State Agent Label Place Kind =
    (m : Agents State Agent Label) (accesses : Accesses Place Kind Label) (numbers : Numbers Agent Place Kind)
    (entries : List (Entry Agent Label)) (writers : ℕ → List Label) (check : Check)
    → HasSeen m accesses numbers entries writers check → ArePassed m accesses entries

-- if the agent of the last step knows all steps of another number, a chain leads from each of them to this step
abbrev pub KnownStepsAreChained : (State Agent Label Place Kind : Type 0) → Type 0
KnownStepsAreChained State Agent Label Place Kind =
    (m : Agents State Agent Label) (accesses : Accesses Place Kind Label) (numbers : Numbers Agent Place Kind)
    (earlier : List (Entry Agent Label)) (writers : ℕ → List Label) (check : Check) (label : Label) (other : ℕ)
    → HasSeen m accesses numbers (entry_of m numbers label check ∷ earlier) writers check
    → KnowsAll check (numbers.agent (m.agent_of label)) other
    → ChainsLead m (λ e. numbers.agent (m.agent_of e) ≡ other) (labels earlier) label
