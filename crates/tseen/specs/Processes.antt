-- The processes of a node: each live one has a name, and each name whose process is there has a live one.
-- Source: own choice.
use Rattle.std.specs.Prelude.{ℕ, ◌≡◌, ◌≤◌, ◌<◌, ◌⊎◌, ◌&&◌, ◌==◌, pos, true, false, length, Option, Some, None, IfSome}
use Rattle.std.specs.List.{count_by}
use Rattle.tcpu.specs.declared.registers.Registers.{Registers}
use Rattle.tproc.specs.declared.waiter.Reason.TheVariants.{LinkOutput}
use Rattle.tproc.specs.declared.waiter.Reason.TheVariants as waits
use Rattle.tproc.specs.ProcessStatus.{live, reason_of}
use Rattle.tnet.specs.Rendezvous.{Node, was_copied}
use Rattle.tprocesses.specs.Places.{Place, Name, Standing, Error, HaltOnError, Life, Population, HasRun, FlagChanged}
use Rattle.tprocesses.specs.Values.{Chosen, Chooses, Value, Context, Lent, Stand, Absent, Rests, Runs, Waits, Ended}
use Rattle.tprocesses.specs.Values.{Listens, IsStand, IsFlag}
use Rattle.tprocesses.specs.Values.{IsAmount, flag_in}
use Rattle.tseen.specs.Known.{HasRegisters, HasSaved}
use Rattle.tseen.specs.Seats.{Seat, Current, Interrupted, Queued, Waiting, is_taken}
use Rattle.tseen.specs.Outputs.{Pending}

-- a process waits for an output of a link whose message has gone over
abbrev pub HasPassed : Node → ℕ → Type 0
HasPassed node process =
    (l : ℕ) × (reason_of node.machine.control process ≡ Some (LinkOutput l)) × (was_copied node l ≡ true)

-- the context of a process, if it is there
abbrev pub context_in : Stand → Option Context
context_in (Rests k) = Some k
context_in (Runs k) = Some k
context_in (Waits k) = Some k
context_in Absent = None
context_in Ended = None
context_in (Chooses k) = Some k
context_in (Chosen k) = Some k
context_in (Listens channel k) = Some k

-- how a process stands that has a seat
abbrev pub Fits : Node → Seat → Stand → Type 0
Fits node Current (Runs k) = IfSome node.machine.control.current
    (λ priority. HasRegisters priority node.machine.control.registers k)
Fits node Interrupted (Runs k) = IfSome node.machine.control.interrupted (λ t. HasRegisters 1 t.registers k)
Fits node (Queued process) (Rests k) = HasSaved node.machine.store process k
Fits node (Queued process) (Chosen k) = HasSaved node.machine.store process k × (k.lent ≡ None)
Fits node (Waiting process) (Rests k) = HasSaved node.machine.store process k × HasPassed node process
Fits node (Waiting process) (Waits k) = HasSaved node.machine.store process k × (k.lent ≡ None)
Fits node (Waiting process) (Chooses k) =
    HasSaved node.machine.store process k × (k.lent ≡ None)
    × (reason_of node.machine.control process ≡ Some waits.Chooses)
Fits _ _ _ = ⊥

module _ (s : Place → Value) (n : ℕ) where
  -- the process of a name has the seat
  pub record IsSeated (node : Node) (q : Seat) (x : Name) : Type 0 where
    pub home : x.node ≡ n
    pub stand : Stand
    pub stands : s (Standing x) ≡ IsStand stand
    pub fits : Fits node q stand
    pub has_run : IfSome (context_in stand) (λ k. s (HasRun n k.priority) ≡ IsFlag true)

  -- the process of a name is not there
  abbrev pub IsGone : Name → Type 0
  IsGone x = (s (Standing x) ≡ IsStand Absent) ⊎ (s (Standing x) ≡ IsStand Ended)

  -- the flags are these
  pub record HasFlags (r : Registers) : Type 0 where
    pub error : s (Error n) ≡ IsFlag r.error
    pub halting : s (HaltOnError n) ≡ IsFlag r.halt_on_error

  -- no flag was changed, or only processes of one priority have run
  abbrev pub KeepsFlags : Type 0
  KeepsFlags = (flag_in (s (FlagChanged n)) && flag_in (s (HasRun n 0)) && flag_in (s (HasRun n 1))) ≡ false

  -- the processes
  pub record ShowsProcesses (named : Seat → Name) (sent : ℕ → Option Pending) (node : Node) : Type 0 where
    -- each seat that is taken has its name
    pub seated : (q : Seat) → is_taken node.machine.control q ≡ true → IsSeated node q (named q)
    -- each process that is there has its seat
    pub there : (x : Name) → x.node ≡ n
        → IsGone x ⊎ ((q : Seat) × (is_taken node.machine.control q ≡ true) × (named q ≡ x))
    -- the output that a process has not ended is that of its link
    pub lent : (x : Name) (k : Context) (t : Lent) → x.node ≡ n → s (Standing x) ≡ IsStand (Rests k)
        → k.lent ≡ Some t
        → (t.link < 4)
        × (sent t.link ≡ Some (record { request = record { process = x; buffer = t.buffer }; copied = true }))
    -- an output whose message has gone over is one that its process has not ended
    pub passed : (l : ℕ) (p : Pending) → sent l ≡ Some p → p.copied ≡ true
        → (p.request.process.node ≡ n) × (k : Context) × (s (Standing p.request.process) ≡ IsStand (Rests k))
        × (k.lent ≡ Some (record { link = l; buffer = p.request.buffer }))
    -- how many live processes have a workspace
    pub lives : (w : ℕ) → s (Life n w) ≡ IsAmount (pos (count_by (λ v. v == w) (live node.machine.control)))
    -- there were never fewer than now
    pub population : (count : ℕ) × (s (Population n) ≡ IsAmount (pos count))
        × (length (live node.machine.control) ≤ count)
    -- one is interrupted only where high ones have run
    pub interrupting : IfSome node.machine.control.interrupted (λ t. s (HasRun n 0) ≡ IsFlag true)
    -- the flags, where no schedule can change them
    pub flags : KeepsFlags → HasFlags node.machine.control.registers
    pub kept_flags : KeepsFlags → IfSome node.machine.control.interrupted (λ t. HasFlags t.registers)
