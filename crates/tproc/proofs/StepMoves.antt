-- The moves that make up the rows of a step, and what each has to keep of a law of kinds, queues, waiting
-- processes and links.
use Rattle.std.proofs.Common.{◌≡◌, ℕ, ◌<◌, List, ◌∷◌, Bool, true, None}
use Rattle.tword.specs.declared.kind.Kind.{Kind}
use Rattle.tword.specs.Claims.{Claims, saving}
use Rattle.tword.specs.Touches.{Reads, Writes, is_aligned, deschedule_break, span_break}
use Rattle.tproc.specs.declared.ran.Ran.{Ran}
use Rattle.tproc.specs.Machine.{Control, workspace_of}
use Rattle.tproc.specs.declared.waiter.Waiter.{Waiter}
use Rattle.tproc.specs.declared.waiter.LinkEnd.{LinkEnd}
use Rattle.tproc.specs.declared.waiter.Reason.{Reason}
use Rattle.tproc.specs.declared.waiter.Reason.TheVariants.{LinkInput, LinkOutput}
use Rattle.tproc.specs.Queues.{appended, without_waiter, waiting_for}
use Rattle.tproc.specs.declared.channels.Side.TheVariants.{Input, Output}
use Rattle.tproc.specs.LinkChannels.{offered, link_end, with_link, link_of}
use Rattle.tproc.proofs.ClaimState.{HasWaiter}
use Rattle.tproc.proofs.ClaimMeaning.{Guarded}

-- a law of the kind, the queues, the processes that wait and the links, at a control
abbrev pub Obeys : (Kind → List ℕ → List ℕ → List Waiter → List LinkEnd → Type 0) → Control → Type 0
Obeys K m = K m.kind m.high m.low m.waiting m.links

-- the descriptor of the process that runs names its workspace
abbrev pub IsOwn : ℕ → Control → Type 0
IsOwn process m = is_aligned m.registers.wptr ≡ true → workspace_of process ≡ m.registers.wptr

-- a process that waits for no link
abbrev pub IsNoLink : Reason → Type 0
IsNoLink reason = ((l : ℕ) → reason ≡ LinkOutput l → ⊥) × ((l : ℕ) → reason ≡ LinkInput l → ⊥)

-- what each move of a row keeps. n: the size of the memory, c: claims that hold at least those of the control
pub record RowsKeep (n : ℕ) (K : Kind → List ℕ → List ℕ → List Waiter → List LinkEnd → Type 0) : Type 0 where
  -- the process that runs waits after its words were descheduled
  pub waits : (process : ℕ) (reason : Reason) (m : Control) (c : Claims) → Obeys K m → Guarded m c → IsOwn process m
      → deschedule_break n c m.registers.wptr ≡ None → Obeys K (waiting_for process reason m)
  -- one that waited is queued
  pub released : (process p : ℕ) (reason : Reason) (m : Control) → Obeys K m → HasWaiter m.waiting process reason
      → IsNoLink reason → Obeys K (appended (workspace_of process) p (without_waiter process m))
  -- one that waited is queued, and the one that runs waits
  pub released_waits : (other p : ℕ) (awaited : Reason) (process : ℕ) (reason : Reason) (m : Control) (c : Claims)
      → Obeys K m → Guarded m c → IsOwn process m → deschedule_break n c m.registers.wptr ≡ None
      → HasWaiter m.waiting other awaited → IsNoLink awaited
      → Obeys K (waiting_for process reason (appended (workspace_of other) p (without_waiter other m)))
  -- a process is queued after its words were descheduled
  pub queued : (process p : ℕ) (m : Control) (c : Claims) → Obeys K m → Guarded m c
      → deschedule_break n c (workspace_of process) ≡ None → Obeys K (appended (workspace_of process) p m)
  -- a link is marked, and its offers stay
  pub marked : (l : ℕ) (e : LinkEnd) (m : Control) → e.output ≡ (link_end m l).output → e.input ≡ (link_end m l).input
      → e.noticed ≡ (link_end m l).noticed → Obeys K m → Obeys K (with_link l e m)
  -- the process that runs waits for a link that was free, after its words were descheduled and its buffer was touched
  pub offered_output : (process channel buffer length : ℕ) (m : Control) (c : Claims) → Obeys K m → Guarded m c
      → IsOwn process m → 0 < length → (link_end m (link_of Output channel)).output ≡ None
      → deschedule_break n c m.registers.wptr ≡ None
      → span_break n (saving m.registers.wptr c) Reads (record { start = buffer; size = length }) ≡ None
      → Obeys K
      (offered (record { process = process; side = Output; channel = channel; buffer = buffer; length = length })
      Output m)
  pub offered_input : (process channel buffer length : ℕ) (m : Control) (c : Claims) → Obeys K m → Guarded m c
      → IsOwn process m → 0 < length → (link_end m (link_of Input channel)).input ≡ None
      → deschedule_break n c m.registers.wptr ≡ None
      → span_break n (saving m.registers.wptr c) Writes (record { start = buffer; size = length }) ≡ None
      → Obeys K
      (offered (record { process = process; side = Input; channel = channel; buffer = buffer; length = length })
      Input m)
  -- the first of a queue leaves it
  pub first_high : (w : ℕ) (ws : List ℕ) (m : Control) → m.high ≡ w ∷ ws → Obeys K m → Obeys K (record m { high = ws })
  pub first_low : (w : ℕ) (ws : List ℕ) (m : Control) → m.low ≡ w ∷ ws → Obeys K m → Obeys K (record m { low = ws })

-- the answers of steps, of parts and of tests
abbrev pub StepObeys : (Kind → List ℕ → List ℕ → List Waiter → List LinkEnd → Type 0) → Claims → Control × Ran → Type 0
StepObeys K d r = Obeys K r.0

abbrev pub PartObeys : (Kind → List ℕ → List ℕ → List Waiter → List LinkEnd → Type 0) → Claims → Control → Type 0
PartObeys K d m = Obeys K m

abbrev pub AnswerObeys : (Kind → List ℕ → List ℕ → List Waiter → List LinkEnd → Type 0) → Claims → Control × Bool
    → Type 0
AnswerObeys K d r = Obeys K r.0
