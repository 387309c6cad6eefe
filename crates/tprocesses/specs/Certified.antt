-- What one run of the process machine certifies, and of what it has to be made sure for that.
-- Source: own choice.
use Rattle.std.specs.Prelude.{ℕ, ◌+◌, ◌==◌, ◌≡◌, ◌≤◌, ◌&&◌, pos, int_le, Bool, true, false, List, length, reverse}
use Rattle.std.specs.List.{list_any, count_by}
use Rattle.tword.specs.Limits.{most_processes}
use Rattle.tplan.specs.declared.plan.Plan.{Plan}
use Rattle.tagents.specs.Agents.{Agents, IsRun, IsOver}
use Rattle.tagents.specs.Races.{IsRaceFree, TakesNothing}
use Rattle.tagents.specs.Certificates.{IsLawful, IsTheOnlyRun, IsCertified}
use Rattle.tagents.specs.PlaceTurns.{HavePlaces}
use Rattle.tagents.specs.Walks.{Label, agents_of}
use Rattle.tagents.specs.Tidy.{AreTidy}
use Rattle.tprocesses.specs.Places.{Place, Standing, Life, Population, HasRun, FlagChanged, same_place}
use Rattle.tprocesses.specs.Values.{Value, Ended, IsStand, IsAmount, amount_in, flag_in}
use Rattle.tprocesses.specs.Changes.{Change, Put}
use Rattle.tprocesses.specs.Parts.{Changed, Deed}
use Rattle.tprocesses.specs.Machine.{Agent, process_machine}
use Rattle.tprocesses.specs.Opening.{of_node, opening_state}

-- a step of the process machine
abbrev pub ProcessStep : Type 0
ProcessStep = Label Agent Place Value Deed

-- the machine of a plan
abbrev pub machine_of : Plan → Agents (Place → Value) Agent ProcessStep
machine_of p = agents_of (process_machine p)

-- a change adds a process to those that a node has had
abbrev pub adds_process : ℕ → Changed → Bool
adds_process n x = same_place x.place (Population n)

-- this change at this place ends a process of a node
abbrev pub ends_at : ℕ → Place → Change → Bool
ends_at n (Standing x) (Put (IsStand Ended)) = x.node == n
ends_at n _ _ = false

-- a change ends a process of a node
abbrev pub ends_process : ℕ → Changed → Bool
ends_process n x = ends_at n x.place x.change

-- a step begins a process of a node: `startp`, `runp`, and that of a successor
abbrev pub begins : ℕ → ProcessStep → Bool
begins n e = list_any (adds_process n) e.deed.changes

-- a step ends a process of a node: `endp`, `stopp`, and `stoperr` where Error is set
abbrev pub ends : ℕ → ProcessStep → Bool
ends n e = list_any (ends_process n) e.deed.changes

-- how many processes the image of a node has
abbrev pub opened_processes : Plan → ℕ → ℕ
opened_processes p n = of_node p n 0 (λ plan. length plan.image.processes)

-- no run has more processes at a node at the same time than may live there: those of the image and those that have
-- begun, but for those that have ended
abbrev pub LiveFewAt : Plan → ℕ → Type 0
LiveFewAt p n =
    (steps : List ProcessStep) (s : Place → Value) → IsRun (machine_of p) (opening_state p) steps s
    → opened_processes p n + count_by (begins n) steps ≤ most_processes + count_by (ends n) steps

-- at no node it has
abbrev pub LiveFew : Plan → Type 0
LiveFew p = (n : ℕ) → LiveFewAt p n

-- a node never had more processes than may live there
abbrev pub HadFewAt : (Place → Value) → ℕ → Type 0
HadFewAt s n = int_le (amount_in (s (Population n))) (pos most_processes) ≡ true

-- no flag was changed at a node where processes of both priorities ran: there one that was interrupted gets its flags
-- back
abbrev pub KeptFlags : (Place → Value) → Type 0
KeptFlags s =
    (n : ℕ) → (flag_in (s (FlagChanged n)) && flag_in (s (HasRun n 0)) && flag_in (s (HasRun n 1))) ≡ false

-- a run of a plan that is over, of which no step stops and that has no race, whose flags no schedule changes, where in
-- no run more processes live at a node at the same time than may
pub record IsCertificate (p : Plan) (steps : List ProcessStep) (end : Place → Value) : Type 0 where
  pub run : IsRun (machine_of p) (opening_state p) steps end
  pub over : IsOver (machine_of p) end
  pub takes_nothing : TakesNothing (machine_of p) steps
  pub race_free : IsRaceFree (machine_of p) steps
  pub few : LiveFew p
  pub flags : KeptFlags end

-- the process machine of each plan is tidy: each agent keeps open the gates of others
abbrev pub ProcessMachineIsTidy : Type 0
ProcessMachineIsTidy = (p : Plan) → AreTidy (process_machine p) (opening_state p)

-- so a run without races tells of all runs
abbrev pub ProcessMachineIsLawful : Type 0
ProcessMachineIsLawful = (p : Plan) → IsLawful (machine_of p) (opening_state p)

-- a certificate of a plan tells of all runs of its process machine: each other is completed to its end, and each that
-- is over ends there
abbrev pub CertificatesTellOfAllRuns : Type 0
CertificatesTellOfAllRuns =
    (p : Plan) (steps : List ProcessStep) (end : Place → Value) → IsCertificate p steps end
    → IsTheOnlyRun (machine_of p) (opening_state p) steps end

-- where the only run ends, and a node never had more processes than may live there, no run has more at the same time
abbrev pub HadFewIsEnough : Type 0
HadFewIsEnough =
    (p : Plan) (n : ℕ) (steps : List ProcessStep) (end : Place → Value)
    → IsTheOnlyRun (machine_of p) (opening_state p) steps end → HadFewAt end n → LiveFewAt p n

-- all that begins at a node in these steps, the last one first, has a place that is taken by turns. Of the places that
-- are free at first there are as many as may live beside the processes of the image, or fewer
pub record HasPlacesAt (p : Plan) (n : ℕ) (steps : List ProcessStep) : Type 0 where
  pub place : ProcessStep → ℕ
  pub free : List Bool
  pub places : HavePlaces (machine_of p) (begins n) (ends n) place free steps
  pub few : opened_processes p n + count_by (λ f. f) free ≤ most_processes

-- that is enough too
abbrev pub PlacesLetFewLive : Type 0
PlacesLetFewLive =
    (p : Plan) (n : ℕ) (steps : List ProcessStep) (end : Place → Value)
    → IsCertified (machine_of p) (opening_state p) (reverse steps) end → HasPlacesAt p n steps → LiveFewAt p n

-- these are the workspaces of the processes that live at a node
abbrev pub HasLives : (Place → Value) → ℕ → List ℕ → Type 0
HasLives s n workspaces = (w : ℕ) → s (Life n w) ≡ IsAmount (pos (count_by (λ v. v == w) workspaces))

-- after steps that do not stop as many live as were in the image and have begun, but for those that have ended
abbrev pub LivingAreCounted : Type 0
LivingAreCounted =
    (p : Plan) (n : ℕ) (steps : List ProcessStep) (s : Place → Value) (workspaces : List ℕ)
    → IsRun (machine_of p) (opening_state p) steps s → TakesNothing (machine_of p) steps → HasLives s n workspaces
    → opened_processes p n + count_by (begins n) steps ≡ length workspaces + count_by (ends n) steps
