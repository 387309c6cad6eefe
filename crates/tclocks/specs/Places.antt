-- Accesses of a place: which a step knows of, with which one of it races, and which have to be kept.
-- Source: own choice, after Flanagan and Freund, FastTrack (2009).
use Rattle.std.specs.Prelude.{ℕ, ◌≡◌, ◌⊎◌, Bool, true, not, ◌&&◌, ◌||◌, ◌==◌, nat_le, List, Option}
use Rattle.std.specs.Prelude.{Contains, find, slice_index}
use Rattle.tclocks.specs.declared.mode.Mode.{Mode}
use Rattle.tclocks.specs.declared.step.Step.{Step}
use Rattle.tclocks.specs.declared.step.Access.{Access}
use Rattle.tclocks.specs.Modes.{collide, covers}

-- an agent knows of a step: it is its own, or the agent's clock has counted it
abbrev pub knows_of : ℕ → List ℕ → Step → Bool
knows_of agent clock step = step.agent == agent || nat_le step.number (slice_index clock step.agent)

-- an access races with one of this mode by the agent: they collide, and the agent does not know of it
abbrev pub races : ℕ → List ℕ → Mode → Access → Bool
races agent clock mode access = collide access.mode mode && not (knows_of agent clock access.step)

-- the first access that races
abbrev pub first_race : ℕ → List ℕ → Mode → List Access → Option Access
first_race agent clock mode accesses = find (races agent clock mode) accesses

-- an access need not be kept any more: the new one collides with all that it collides with, and knows of it
abbrev pub is_replaced : List ℕ → Access → Access → Bool
is_replaced clock new access = covers new.mode access.mode && knows_of new.step.agent clock access.step

pub record IsReplaced (clock : List ℕ) (new access : Access) : Type 0 where
  pub covered : covers new.mode access.mode ≡ true
  pub known : knows_of new.step.agent clock access.step ≡ true

-- what is kept of a place behind a new access
pub record NotesAccess (clock : List ℕ) (new : Access) (before after : List Access) : Type 0 where
  -- the access itself
  pub noted : Contains after new
  -- each earlier one that it does not replace
  pub kept : (access : Access) → Contains before access → Contains after access ⊎ IsReplaced clock new access
  -- nothing else
  pub only : (access : Access) → Contains after access → (access ≡ new) ⊎ Contains before access
