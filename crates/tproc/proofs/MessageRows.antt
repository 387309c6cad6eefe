-- The rows of messages keep any law that their moves keep.
use Rattle.std.proofs.Common.{◌≡◌, ℕ, ◌<◌, refl, List, length, true, not, Option, Some, None, arith, is_none}
use Rattle.std.specs.Prelude.{◌==◌}
use Rattle.std.proofs.lemmas.Bool.{and_parts, eqb-false, not-true}
use Rattle.tword.specs.declared.kind.Kind.{Kind}
use Rattle.tword.specs.Words.{word_below}
use Rattle.tword.specs.Claims.{Claims, saving}
use Rattle.tword.specs.Touches.{deschedule_break}
use Rattle.tword.specs.Actions.{answer}
use Rattle.tword.proofs.Leads.{Leads, leads_bind, leads_after, leads_if}
use Rattle.tcpu.specs.declared.registers.Registers.{Registers}
use Rattle.tproc.specs.declared.offer.Offer.{Offer}
use Rattle.tproc.specs.declared.ran.Ran.TheVariants.{Instruction}
use Rattle.tproc.specs.Machine.{Control, workspace_of, priority_of}
use Rattle.tproc.specs.declared.waiter.Waiter.{Waiter}
use Rattle.tproc.specs.declared.waiter.LinkEnd.{LinkEnd}
use Rattle.tproc.specs.declared.waiter.Reason.{Reason}
use Rattle.tproc.specs.declared.waiter.Reason.TheVariants.{Receives, Sends, Chooses}
use Rattle.tproc.specs.declared.process_status.ProcessStatus.{ProcessStatus}
use Rattle.tproc.specs.declared.process_status.ProcessStatus.TheVariants.{Waits, Queued, Interrupted}
use Rattle.tproc.specs.ProcessStatus.{status}
use Rattle.tproc.specs.Queues.{not_process, state_word, release, without_waiter, waiting_for}
use Rattle.tproc.specs.declared.channels.Side.{Side}
use Rattle.tproc.specs.declared.channels.Side.TheVariants.{Input, Output}
use Rattle.tproc.specs.Channels.{ready, set_touched_word, Request, waits_on_channel, exchanged, reason_for, input_meets}
use Rattle.tproc.specs.Channels.{output_meets, meets, internal_message, goes_on, own_side}
use Rattle.tproc.specs.LinkChannels.{link_end, link_of, is_link, link_message, message}
use Rattle.tproc.proofs.ClaimState.{HasWaiter}
use Rattle.tproc.proofs.Waiters.{status_waits}
use Rattle.tproc.proofs.ClaimMeaning.{Guarded}
use Rattle.tproc.proofs.ClaimMoves.{enqueue_to}
use Rattle.tproc.proofs.StepMoves.{Obeys, IsOwn, IsNoLink, RowsKeep, StepObeys, PartObeys}

-- a length that is not 0
not_zero : (k : ℕ) → not (k == 0) ≡ true → 0 < k
not_zero k h = let e : (k ≡ 0) → ⊥ = eqb-false k 0 (not-true (k == 0) h) in omega arith

-- a link that is free has no offer
pub none_if : (o : Option Offer) → is_none o ≡ true → o ≡ None
none_if None h = refl
none_if (Some x) h = cc

module _ (n : ℕ) (K : Kind → List ℕ → List ℕ → List Waiter → List LinkEnd → Type 0) (law : RowsKeep n K) where
  -- the process waits after its words were descheduled
  waits-keeps : (process : ℕ) (reason : Reason) (m : Control) (c : Claims) → Obeys K m × Guarded m c → IsOwn process m
      → deschedule_break n c m.registers.wptr ≡ None → Obeys K (waiting_for process reason m)
  waits-keeps process reason m c f own h = law.waits process reason m c f.0 f.1 own h

  -- one that waits, and not for a link, is queued
  release-keeps : (process : ℕ) (reason : Reason) (m : Control) (c : Claims) → Obeys K m
      → HasWaiter m.waiting process reason → IsNoLink reason → Leads n (PartObeys K) c (release process m)
  unfolding release
  release-keeps process reason m c g waits unlinked =
      enqueue_to n (Obeys K) process (without_waiter process m) c
      (law.released process (priority_of process) reason m g waits unlinked)

  -- messages on channels
  exchanged-keeps : (r : Registers) (q : Request) (other : ℕ) (reason : Reason) (from to : ℕ) (m : Control) (c : Claims)
      → Obeys K m → HasWaiter m.waiting other reason → IsNoLink reason
      → Leads n (StepObeys K) c (exchanged r q other from to m)
  exchanged-keeps r q other reason from to m c g waits unlinked = λ _ _.
      leads_bind n (PartObeys K) (StepObeys K) (release other m) (goes_on r) c
      (release-keeps other reason m c g waits unlinked) (λ d m' h. h)

  input_meets-keeps : (r : Registers) (q : Request) (other : ℕ) (at : ProcessStatus) (m : Control) (c : Claims)
      → Obeys K m → status m other ≡ at → Leads n (StepObeys K) c (input_meets r q other at m)
  input_meets-keeps r q other (Waits (Sends channel buffer length)) m c g e = λ _ _ _ _.
      exchanged-keeps r q other (Sends channel buffer length) buffer q.buffer m c g
      (status_waits m other (Sends channel buffer length) e) ((λ l h. cc), (λ l h. cc))
  input_meets-keeps r q other _ m c g e = tt

  output_meets-keeps : (r : Registers) (q : Request) (other : ℕ) (at : ProcessStatus) (m : Control) (c : Claims)
      → Obeys K m × Guarded m c → IsOwn q.process m → status m other ≡ at
      → Leads n (StepObeys K) c (output_meets r q other at m)
  unfolding release own_side
  output_meets-keeps r q other (Waits (Receives channel buffer length)) m c f own e = λ _ _ _ _.
      exchanged-keeps r q other (Receives channel buffer length) q.buffer buffer m c f.0
      (status_waits m other (Receives channel buffer length) e) ((λ l h. cc), (λ l h. cc))
  output_meets-keeps r q other (Waits Chooses) m c f own e = λ h _ _.
      leads_bind n (λ d m'. Obeys K (waiting_for q.process (reason_for q q.side) m')) (StepObeys K) (release other m)
      (λ m'. answer (waiting_for q.process (reason_for q q.side) m', Instruction)) (saving m.registers.wptr c)
      (enqueue_to n (λ m'. Obeys K (waiting_for q.process (reason_for q q.side) m')) other (without_waiter other m)
      (saving m.registers.wptr c)
      (law.released_waits other (priority_of other) Chooses q.process (reason_for q q.side) m c f.0 f.1 own h
      (status_waits m other Chooses e) ((λ l h. cc), (λ l h. cc))))
      (λ d m' k. k)
  output_meets-keeps r q other Queued m c f own e = λ _ _ h _ _. waits-keeps q.process (reason_for q q.side) m c f own h
  output_meets-keeps r q other Interrupted m c f own e = λ _ _ _ h _ _.
      leads_after n (StepObeys K) (set_touched_word m.registers.wptr (word_below (workspace_of other) state_word) ready)
      (λ _. answer (waiting_for q.process (reason_for q q.side) m, Instruction)) (saving m.registers.wptr c)
      (λ d _. waits-keeps q.process (reason_for q q.side) m c f own h)
  output_meets-keeps r q other _ m c f own e = tt

  meets-keeps : (side : Side) (r : Registers) (q : Request) (other : ℕ) (m : Control) (c : Claims) → Obeys K m
      × Guarded m c → IsOwn q.process m → Leads n (StepObeys K) c (meets side r q other m)
  meets-keeps Input r q other m c f own = input_meets-keeps r q other (status m other) m c f.0 refl
  meets-keeps Output r q other m c f own = output_meets-keeps r q other (status m other) m c f own refl

  internal-keeps : (r : Registers) (q : Request) (m : Control) (c : Claims) → Obeys K m × Guarded m c
      → IsOwn q.process m → Leads n (StepObeys K) c (internal_message r q m)
  unfolding own_side
  internal-keeps r q m c f own = λ _ v.
      leads_if n (StepObeys K) (v == not_process) (waits_on_channel q m) (meets q.side r q v m) c
      (λ _ h _ _. waits-keeps q.process (reason_for q q.side) m c f own h) (λ _. meets-keeps q.side r q v m c f own)

  link_message-keeps : (process : ℕ) (side : Side) (channel buffer length : ℕ) (m : Control) (c : Claims) → Obeys K m
      × Guarded m c → IsOwn process m
      → Leads n (StepObeys K) c
      (link_message (record { process = process; side = side; channel = channel; buffer = buffer; length = length })
      m)
  link_message-keeps process Input channel buffer length m c f own =
      λ _ _ more free h k. law.offered_input process channel buffer length m c f.0 f.1 own (not_zero length more)
      (none_if (link_end m (link_of Input channel)).input (and_parts _ _ free).0) h k
  link_message-keeps process Output channel buffer length m c f own =
      λ _ _ more free h k. law.offered_output process channel buffer length m c f.0 f.1 own (not_zero length more)
      (none_if (link_end m (link_of Output channel)).output free) h k

  pub message-keeps : (r : Registers) (process : ℕ) (side : Side) (channel buffer length : ℕ) (m : Control) (c : Claims)
      → Obeys K m × Guarded m c → IsOwn process m
      → Leads n (StepObeys K) c
      (message r (record { process = process; side = side; channel = channel; buffer = buffer; length = length }) m)
  message-keeps r process side channel buffer length m c f own =
      let q : Request =
      record { process = process; side = side; channel = channel; buffer = buffer; length = length } in
      leads_if n (StepObeys K) (is_link channel) (link_message q m) (internal_message r q m) c
      (λ _. link_message-keeps process side channel buffer length m c f own) (λ _. internal-keeps r q m c f own)
