-- The accesses that are kept of a place, as the program keeps them.
-- Source: own choice.
use Rattle.std.specs.Prelude.{ℕ, ◌≡◌, ◌≢◌, ◌<◌, ◌==◌, ◌&&◌, not, Bool, true, false, List, [], ◌∷◌, ◌++◌, Contains}
use Rattle.std.specs.Prelude.{Option, None, Some, length, slice_index, slice_index_or, slice_set, if◌then◌else◌}
use Rattle.tclocks.specs.declared.mode.Mode.{Mode}
use Rattle.tclocks.specs.declared.mode.Mode.TheVariants as mode
use Rattle.tclocks.specs.declared.step.Access.{Access}
use Rattle.tclocks.specs.declared.ways.Ways.{Ways}
use Rattle.tclocks.specs.declared.ways.Ways.TheVariants.{TwoLooks, LookAndClaim, LookAndLoan, ClaimAndLook, TwoClaims}
use Rattle.tclocks.specs.declared.ways.Ways.TheVariants.{ClaimAndLoan, PutAndLook, PutAndClaim, PutAndLoan}
use Rattle.tclocks.specs.declared.ways.Ways.TheVariants.{LoanAndLook, LoanAndClaim, TwoLoans}
use Rattle.tclocks.specs.declared.kept.Kept.{Kept}
use Rattle.tclocks.specs.declared.kept.Kept.TheVariants.{OfOne, UpToTwo, TwoChanges, PutAndChange, InList}
use Rattle.tclocks.specs.Places.{first_race, IsReplaced, NotesAccess}

-- the access, unless its step has number 0: there is none
abbrev pub unless_none : Access → List Access
unless_none access = if access.step.number == 0 then [] else access ∷ []

-- the access in this mode by this agent's step of this number
abbrev pub access_by : Mode → ℕ → ℕ → Access
access_by mode agent number = record { mode = mode; step = record { agent = agent; number = number } }

-- two accesses in these modes by these agents' steps of these numbers
abbrev pub two_by : Mode × Mode → ℕ × ℕ → ℕ × ℕ → Access × Access
two_by modes agents numbers = (access_by modes.0 agents.0 numbers.0, access_by modes.1 agents.1 numbers.1)

-- the mode in which an agent looks, or claims
abbrev pub look_mode : Bool → Mode
look_mode true = mode.Claims
look_mode false = mode.Looks

-- the modes of two accesses in these ways
abbrev pub modes_of : Ways → Mode × Mode
modes_of TwoLooks = (mode.Looks, mode.Looks)
modes_of LookAndClaim = (mode.Looks, mode.Claims)
modes_of LookAndLoan = (mode.Looks, mode.Lends)
modes_of ClaimAndLook = (mode.Claims, mode.Looks)
modes_of TwoClaims = (mode.Claims, mode.Claims)
modes_of ClaimAndLoan = (mode.Claims, mode.Lends)
modes_of PutAndLook = (mode.Puts, mode.Looks)
modes_of PutAndClaim = (mode.Puts, mode.Claims)
modes_of PutAndLoan = (mode.Puts, mode.Lends)
modes_of LoanAndLook = (mode.Lends, mode.Looks)
modes_of LoanAndClaim = (mode.Lends, mode.Claims)
modes_of TwoLoans = (mode.Lends, mode.Lends)

-- the two accesses that are kept without a list
abbrev pub two_of : Kept → Option (Access × Access)
two_of (OfOne claims agent put look) = Some (two_by (mode.Puts, look_mode claims) (agent, agent) (put, look))
two_of (UpToTwo ways agents numbers) = Some (two_by (modes_of ways) agents numbers)
two_of (TwoChanges kind agents numbers) = Some (two_by (mode.Commutes kind, mode.Commutes kind) agents numbers)
two_of (PutAndChange kind agents numbers) = Some (two_by (mode.Puts, mode.Commutes kind) agents numbers)
two_of (InList list) = None

-- those of two accesses that are some
abbrev pub some_of : Option (Access × Access) → List Access
some_of None = []
some_of (Some two) = unless_none two.0 ++ unless_none two.1

-- the accesses that are kept of a place
abbrev pub accesses_of : List (List Access) → Kept → List Access
accesses_of lists (InList list) = slice_index_or lists list []
accesses_of lists kept = some_of (two_of kept)

-- an access of this mode by this agent, who alone was there before, is kept as a number
abbrev pub is_own : ℕ → Mode → Kept → Bool
is_own agent mode.Puts (OfOne claims by put look) = by == agent
is_own agent mode.Claims (OfOne claims by put look) = by == agent
is_own agent mode.Looks (OfOne claims by put look) = by == agent && not claims
is_own agent mode kept = false

-- they are in no list
abbrev pub IsBrief : Kept → Type 0
IsBrief (InList list) = ⊥
IsBrief kept = Unit {0}

-- these are in no list
pub record IsBriefly (accesses : List Access) (kept : Kept) : Type 0 where
  pub brief : IsBrief kept
  pub same : (lists : List (List Access)) → accesses_of lists kept ≡ accesses

-- the new access replaces all of these
abbrev pub ReplacesAll : List ℕ → Access → List Access → Type 0
ReplacesAll clock new accesses = (access : Access) → Contains accesses access → IsReplaced clock new access

-- an access that races with none was noted, and no list is needed for it
pub record IsNotedBriefly (clock : List ℕ) (new : Access) (before after : Kept) : Type 0 where
  pub permitted : (lists : List (List Access))
      → first_race new.step.agent clock new.mode (accesses_of lists before) ≡ None
  pub noted : (lists : List (List Access)) → NotesAccess clock new (accesses_of lists before) (accesses_of lists after)
  pub brief : IsBrief after

-- an access was noted at a place, and the others stay as they were
pub record IsKeptAt (clock : List ℕ) (new : Access) (place : ℕ) (before after : List (List Access)) : Type 0 where
  pub noted : NotesAccess clock new (slice_index_or before place []) (slice_index_or after place [])
  pub only : after ≡ slice_set before place (slice_index_or after place [])

-- the same of an access that races with none
pub record IsNotedAt (clock : List ℕ) (new : Access) (place : ℕ) (before after : List (List Access)) : Type 0 where
  pub permitted : first_race new.step.agent clock new.mode (slice_index_or before place []) ≡ None
  pub noted : NotesAccess clock new (slice_index_or before place []) (slice_index_or after place [])
  pub only : after ≡ slice_set before place (slice_index_or after place [])

-- a place whose accesses are in a list is the owner of that list
abbrev pub IsOwned : List ℕ → ℕ → Kept → Type 0
IsOwned owners place (InList list) = (list < length owners) × (slice_index owners list ≡ place)
IsOwned owners place kept = Unit {0}

-- so no two places have one list
pub record AreOwned (kept : List Kept) (lists : List (List Access)) (owners : List ℕ) : Type 0 where
  pub same : length owners ≡ length lists
  pub owned : (place : ℕ) → place < length kept → IsOwned owners place (slice_index_or kept place (OfOne false 0 0 0))

-- a list that no place has
pub record IsSpare (kept : List Kept) (owners : List ℕ) (list : ℕ) : Type 0 where
  pub within : list < length owners
  pub unused : (place : ℕ) → place < length kept → slice_index_or kept place (OfOne false 0 0 0) ≢ InList list
