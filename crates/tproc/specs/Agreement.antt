-- How the claims that a memory keeps agree with a control, and what the code of a step needs to know of a control.
-- Source: own choice, words for contracts.
use Rattle.std.specs.Prelude.{◌≡◌, ◌≢◌, ◌<◌, ◌≤◌, ◌%◌, ◌+◌, ℕ, zero, suc, Bool, ◌&&◌, nat_le, nat_lt, true, false, []}
use Rattle.std.specs.Prelude.{◌∷◌, ◌++◌, AllPairs, List, map, length, IfSome, Some, option_map}
use Rattle.tword.specs.Claims.{Claims, has_saved}
use Rattle.tproc.specs.Machine.{Control, workspace_of, descheduled, buffer_of}
use Rattle.tword.specs.Limits.{most_processes}
use Rattle.tproc.specs.ProcessStatus.{is_among, live}
use Rattle.tproc.specs.declared.waiter.LinkEnd.{LinkEnd}

-- the claims that a memory keeps are those of these workspaces, in any order, of which no two are the same, and of
-- these links
pub record AgreesOn (claims : Claims) (workspaces : List ℕ) (links : List LinkEnd) : Type 0 where
  pub saved : (w : ℕ) → has_saved claims w ≡ is_among w workspaces
  pub count : length claims.saved ≡ length workspaces
  pub distinct : AllPairs (λ v w. v ≢ w) workspaces
  pub inputs : claims.inputs ≡ map (λ e. option_map buffer_of e.input) links
  pub outputs : claims.outputs ≡ map (λ e. option_map buffer_of e.output) links

-- the claims that a memory keeps are those of a control, where the words of these further workspaces are saved: of a
-- process that is about to be queued or to wait, or that has just left its queue
pub record AgreesWith (others : List ℕ) (claims : Claims) (m : Control) : Type 0 where
  pub on : AgreesOn claims (others ++ descheduled m) m.links

-- the claims that a memory keeps are those of a control
abbrev pub Agrees : Claims → Control → Type 0
Agrees claims m = AgreesWith [] claims m

-- whatever claims agreed agree still
abbrev pub StillAgrees : Control → Control → Type 0
StillAgrees m m' = (others : List ℕ) (c : Claims) → AgreesWith others c m → AgreesWith others c m'

-- whatever claims agreed except for this workspace agree now
abbrev pub Settles : ℕ → Control → Control → Type 0
Settles w m m' = (others : List ℕ) (c : Claims) → AgreesWith (w ∷ others) c m → AgreesWith others c m'

-- whatever claims agreed do so now except for this workspace
abbrev pub Unsettles : ℕ → Control → Control → Type 0
Unsettles w m m' = (others : List ℕ) (c : Claims) → AgreesWith others c m → AgreesWith (w ∷ others) c m'

-- each process that is queued or waits has its words saved
abbrev pub AreSaved : Claims → Control → Type 0
AreSaved claims m = (w : ℕ) → is_among w (descheduled m) ≡ true → has_saved claims w ≡ true

-- where each process that is queued or waits had its words saved, each has so still
abbrev pub StillSaved : Control → Control → Type 0
StillSaved m m' = (c : Claims) → AreSaved c m → AreSaved c m'

-- each workspace of a process that runs or was interrupted begins at a word, and no more live than may
pub record IsPlain (m : Control) : Type 0 where
  pub words : m.registers.wptr % 4 ≡ 0
  pub kept : IfSome m.interrupted (λ s. s.registers.wptr % 4 ≡ 0)
  pub few : length (live m) ≤ most_processes

-- a control whose claims a memory keeps: what each step starts from
pub record IsReady (claims : Claims) (m : Control) : Type 0 where
  pub plain : IsPlain m
  pub agrees : Agrees claims m

-- how many processes are queued or wait
abbrev pub descheduled_count : Control → ℕ
descheduled_count m = length m.high + length m.low + length m.waiting

-- one more process may be queued or wait
abbrev pub HasPlace : Control → Type 0
HasPlace m = descheduled_count m < most_processes

-- the descriptor of the process that runs, which may come to be queued or to wait
pub record IsOwn (process : ℕ) (m : Control) : Type 0 where
  pub place : HasPlace m
  pub workspace : workspace_of process ≡ m.registers.wptr

-- a process of this priority runs
pub record RunsAt (priority : ℕ) (m : Control) : Type 0 where
  pub plain : IsPlain m
  pub running : m.current ≡ Some priority

-- the timeslice of a process is over, and another low one is queued
abbrev pub is_over : ℕ → Control → Bool
is_over zero m = false
is_over (suc p) m = nat_le m.timeslice m.count && nat_lt 0 (length m.low)
