-- Operations that begin a process are seen.
-- Source: own choice.
use Rattle.std.specs.Prelude.{ℕ, ◌≡◌, ◌≤◌, Bool, true, false, List, length, Some}
use Rattle.tword.specs.Limits.{most_processes}
use Rattle.tcode.specs.declared.instruction.Operation.{Operation}
use Rattle.tcode.specs.declared.instruction.Operation.TheVariants.{Startp, Runp}
use Rattle.tcpu.specs.declared.registers.Next.TheVariants.{Schedule}
use Rattle.tplan.specs.declared.plan.Plan.{Plan}
use Rattle.tnet.specs.Rendezvous.{Configuration}
use Rattle.tprocesses.specs.Places.{Place, Name, HasRun}
use Rattle.tprocesses.specs.Values.{Value, IsFlag}
use Rattle.tprocesses.specs.Certified.{HasLives}
use Rattle.tseen.specs.Steps.{IsCurrent, Makes, LeadsTo, next_of}

-- an operation that begins a process
abbrev pub begins_process : Operation → Bool
begins_process Startp = true
begins_process Runp = true
begins_process _ = false

-- the flags are there that tell which priorities have run at a node
abbrev pub TellsRuns : (Place → Value) → ℕ → Type 0
TellsRuns s n = (priority : ℕ) → (b : Bool) × (s (HasRun n priority) ≡ IsFlag b)

-- no more processes live at a node than may, by how many have each workspace
abbrev pub HasFew : (Place → Value) → ℕ → Type 0
HasFew s n = (workspaces : List ℕ) → HasLives s n workspaces → length workspaces ≤ most_processes

-- it is seen as the step of the process that does it, if after it no more processes live at the node than may. The
-- process that begins may have either priority: it is queued, and interrupts nobody in this step
abbrev pub BeginningsAreSeen : Type 0
BeginningsAreSeen =
    (p : Plan) (c : Configuration) (s s' : Place → Value) (n : ℕ) (x : Name) (o : Operation)
    → (k : IsCurrent p c s n x) → next_of k.node.machine ≡ Some (Schedule o) → begins_process o ≡ true → TellsRuns s n
    → HasFew s' n → Makes p x s s' → LeadsTo p c n s'
