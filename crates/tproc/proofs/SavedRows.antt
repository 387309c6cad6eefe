-- What each row of a step and each action of a link sets of saved words: one queue link at most, where it queues a
-- process behind another.
use Rattle.std.proofs.Common.{◌≡◌, ℕ, zero, suc, ◌+◌, ◌%◌, ◌<◌, refl, subst, List, [], ◌∷◌, Bool, true, false, not}
use Rattle.std.proofs.Common.{◌&&◌, ◌||◌, Option, Some, None, inl, inr, arith}
use Rattle.std.proofs.lemmas.Bool.{eqb-true}
use Rattle.std.specs.Prelude.{◌==◌, if◌then◌else◌, nat_le}
use Rattle.tword.specs.Words.{plus, minus, word_below}
use Rattle.tword.specs.declared.breaks.Break.TheVariants.{AlreadyLive}
use Rattle.tword.specs.Actions.{Deed, answer, done, ◌>>=◌, ◌>>◌, require, write_word, set_saved_word, deschedule}
use Rattle.tcode.specs.declared.instruction.Operation.{Operation}
use Rattle.tcode.specs.declared.instruction.Operation.TheVariants as op
use Rattle.tcode.specs.Decoding.{decode}
use Rattle.tcpu.specs.declared.registers.Registers.{Registers}
use Rattle.tcpu.specs.declared.registers.Next.{Next}
use Rattle.tcpu.specs.declared.registers.Next.TheVariants.{Go, Jumped, Schedule, Halt}
use Rattle.tcpu.specs.Outcomes.{pop, all_to, flag}
use Rattle.tcpu.specs.Effects.{effect}
use Rattle.tproc.specs.declared.offer.Offer.{Offer}
use Rattle.tproc.specs.declared.ran.Ran.{Ran}
use Rattle.tproc.specs.declared.ran.Ran.TheVariants.{Instruction}
use Rattle.tproc.specs.Machine.{Control, workspace_of}
use Rattle.tproc.specs.declared.waiter.LinkEnd.{LinkEnd}
use Rattle.tproc.specs.declared.waiter.Suspended.{Suspended}
use Rattle.tproc.specs.declared.waiter.Reason.TheVariants.{Sends, Chooses}
use Rattle.tproc.specs.declared.process_status.ProcessStatus.{ProcessStatus}
use Rattle.tproc.specs.declared.process_status.ProcessStatus.TheVariants.{Waits, Runs}
use Rattle.tproc.specs.ProcessStatus.{status, is_live, is_among}
use Rattle.tproc.specs.Queues.{not_process, iptr_word, state_word, enqueue, at_rest, waiting_for, admit, add_process}
use Rattle.tproc.specs.declared.channels.Side.{Side}
use Rattle.tproc.specs.declared.channels.Side.TheVariants.{Input, Output}
use Rattle.tproc.specs.Channels.{enabling, waiting_state, ready, goes_on}
use Rattle.tproc.specs.LinkChannels.{link_end, with_link, link_of, is_link, check_end, check_free}
use Rattle.tproc.specs.Alternatives.{none_selected, sets_ready, enable_link, enable_found, enable_internal, enable}
use Rattle.tproc.specs.Alternatives.{enables_channel, enables_skip, awaits_choice, disable_found, disable_internal}
use Rattle.tproc.specs.Alternatives.{disable_link, disable, selects, disables_channel}
use Rattle.tproc.specs.Scheduler.{counted, counted_by, yields, jumped_low, jumped, stops, ends, starts, runs}
use Rattle.tproc.specs.Scheduler.{communicates, sends_from_workspace, operation_step}
use Rattle.tproc.specs.Links.{wakes, readies_queued, readies_running, finished}
use Rattle.tproc.specs.Steps.{after, instruction_step, dispatch_low, dispatch_below, dispatch, low_step, running_step}
use Rattle.tproc.specs.Steps.{control_step}
use Rattle.tproc.proofs.SavedEffects.{decode-none, effect-none}
use Rattle.tproc.proofs.SavedSets.{Sets, sets_bind, sets_if, SetsNone, sets_none}
use Rattle.tproc.proofs.QueueLinks.{StepTurns, PartTurns, stays, enqueue-turns, release-turns, message-turns}

-- the answers of parts and of tests that leave the queues, and set no link
abbrev PartStays : Control → Option (ℕ × ℕ) → Control → Type 0
PartStays m link m' = (link ≡ None) × (m'.high ≡ m.high) × (m'.low ≡ m.low)

abbrev AnswerStays : Control → Option (ℕ × ℕ) → Control × Bool → Type 0
AnswerStays m link r = PartStays m link r.0

stays_so : (m m' : Control) (link : Option (ℕ × ℕ)) → PartStays m link m' → PartTurns m link m'
stays_so m m' link h = inl (h.0, inl h.1, inl h.2)

-- D: the workspaces that are watched
module _ (D : List ℕ) where
  -- alternatives
  enable_link-stays : (l process : ℕ) (e : LinkEnd) (m : Control)
      → Sets D (PartStays m) None (enable_link l process e m)
  enable_link-stays l process e m =
      sets_if D (PartStays m) e.noticed (sets_ready m >> answer m)
      (answer (with_link l (record e { remembered = Some process }) m)) None (refl, refl, refl) (refl, refl, refl)

  enable_found-stays : (channel process found : ℕ) (at : ProcessStatus) (m : Control)
      → Sets D (PartStays m) None (enable_found channel process found at m)
  enable_found-stays channel process found (Waits (Sends other buffer length)) m = λ _. (refl, refl, refl)
  enable_found-stays channel process found Runs m = (refl, refl, refl)
  enable_found-stays channel process found _ m = tt

  enable-stays : (channel process : ℕ) (m : Control) → Sets D (PartStays m) None (enable channel process m)
  enable-stays channel process m =
      sets_if D (PartStays m) (is_link channel)
      (check_end Input channel >>
      (check_free Input channel m >> enable_link (link_of Input channel) process
      (link_end m (link_of Input channel)) m)) (enable_internal channel process m) None
      (λ _ _ _. enable_link-stays (link_of Input channel) process (link_end m (link_of Input channel)) m)
      (λ v. sets_if D (PartStays m) (v == not_process) (write_word channel process >> answer m)
      (enable_found channel process v (status m v) m) None (refl, refl, refl)
      (enable_found-stays channel process v (status m v) m))

  disable_found-stays : (channel : ℕ) (at : ProcessStatus) (m : Control)
      → Sets D (AnswerStays m) None (disable_found channel at m)
  disable_found-stays channel (Waits (Sends other buffer length)) m = λ _. (refl, refl, refl)
  disable_found-stays channel Runs m = (refl, refl, refl)
  disable_found-stays channel _ m = tt

  disable-stays : (channel : ℕ) (m : Control) → Sets D (AnswerStays m) None (disable channel m)
  disable-stays channel m =
      sets_if D (AnswerStays m) (is_link channel)
      (check_end Input channel >>
      (check_free Input channel m >> disable_link (link_of Input channel) (link_end m (link_of Input channel)) m))
      (disable_internal channel m) None
      (λ _ _ _. (refl, refl, refl))
      (λ v. sets_if D (AnswerStays m) (v == not_process) (answer (m, false)) (disable_found channel (status m v) m)
      None (refl, refl, refl) (disable_found-stays channel (status m v) m))

  enables_channel-turns : (process : ℕ) (m : Control) → Sets D (StepTurns m) None (enables_channel process m)
  enables_channel-turns process m = λ v _.
      sets_bind D (PartStays m) (StepTurns m) (if m.registers.a == 0 then answer m else enable m.registers.b process m)
      (goes_on (all_to m.registers.a m.registers)) None
      (sets_if D (PartStays m) (m.registers.a == 0) (answer m) (enable m.registers.b process m) None (refl, refl, refl)
      (enable-stays m.registers.b process m))
      (λ l m' h. stays_so m m' l h)

  -- a deed that sets no saved word, and then an answer that leaves the queues
  deed-turns : (x : Deed) (m m' : Control) (r : Ran) → SetsNone x → m'.high ≡ m.high → m'.low ≡ m.low
      → Sets D (StepTurns m) None (x >> answer (m', r))
  deed-turns x m m' r h e f =
      sets_bind D (λ l _. l ≡ None) (StepTurns m) x (λ _. answer (m', r)) None (sets_none D x None h)
      (λ l _ k. inl (k, inl e, inl f))

  chosen-none : (b : Bool) (a v : ℕ) → SetsNone (if b then write_word a v else done)
  chosen-none true a v = tt
  chosen-none false a v = tt

  skipped-none : (b : Bool) (m : Control) → SetsNone (if b then done else sets_ready m)
  skipped-none true m = tt
  skipped-none false m = tt

  enables_skip-turns : (m : Control) → Sets D (StepTurns m) None (enables_skip m)
  enables_skip-turns m =
      λ v _. deed-turns (if m.registers.a == 0 then done else sets_ready m) m m Instruction
      (skipped-none (m.registers.a == 0) m) refl refl

  awaits_choice-turns : (process : ℕ) (m : Control) → Sets D (StepTurns m) None (awaits_choice process m)
  awaits_choice-turns process m = λ v _.
      sets_if D (StepTurns m) (v == ready) (goes_on m.registers m)
      (deschedule m.registers.wptr >>
      (set_saved_word m.registers.wptr state_word waiting_state >>
      (set_saved_word m.registers.wptr iptr_word m.registers.iptr >> answer
      (waiting_for process Chooses m, Instruction)))) None
      (stays m.high m.low) (λ fresh. inl (fresh, inl (fresh, stays m.high m.low)))

  selects-turns : (m m' : Control) (offset : ℕ) (b : Bool) → m'.high ≡ m.high → m'.low ≡ m.low
      → Sets D (StepTurns m) None (selects offset b m')
  selects-turns m m' offset b e f = λ v.
      let chosen : Bool = b && (v == none_selected) in
      deed-turns (if chosen then write_word m'.registers.wptr offset else done) m
      (record m' { registers = all_to (flag chosen) m'.registers }) Instruction
      (chosen-none chosen m'.registers.wptr offset) e f

  disables_channel-turns : (m : Control) → Sets D (StepTurns m) None (disables_channel m)
  disables_channel-turns m =
      sets_bind D (AnswerStays m) (StepTurns m)
      (if m.registers.b == 0 then answer (m, false) else disable m.registers.c m)
      (λ r. selects m.registers.a r.1 r.0) None
      (sets_if D (AnswerStays m) (m.registers.b == 0) (answer (m, false)) (disable m.registers.c m) None
      (refl, refl, refl) (disable-stays m.registers.c m))
      (λ l r h. rw h.0 (selects-turns m r.0 m.registers.a r.1 h.1 h.2))

  -- the scheduler
  ends-turns : (m : Control) → Sets D (StepTurns m) None (ends m)
  ends-turns m = λ s l.
      sets_if D (StepTurns m) (l == 1)
      (require ((m.registers.a == m.registers.wptr) || not (is_live m m.registers.a)) AlreadyLive >>
      (write_word (plus m.registers.a 4) 0 >> goes_on
      (record m.registers { a = 0; b = 0; c = 0; iptr = s; wptr = m.registers.a }) m))
      (write_word (plus m.registers.a 4) (minus l 1) >> answer (at_rest m, Instruction)) None
      (λ _. stays m.high m.low) (stays m.high m.low)

  starts-turns : (priority : ℕ) (m : Control) → priority < 2 → Sets D (StepTurns m) None (starts priority m)
  unfolding admit
  starts-turns priority m b = λ even _ _ _ fresh.
      let e : m.registers.a % 4 ≡ 0 = eqb-true _ _ even in
      let own : workspace_of (m.registers.a + priority) ≡ m.registers.a = omega (arith, e, b) in
      inl (
        subst (λ w. is_among w D ≡ false) own fresh,
        sets_bind D (PartTurns m) (StepTurns m) (enqueue (m.registers.a + priority) m) (goes_on (pop (pop m.registers)))
            None (enqueue-turns D (m.registers.a + priority) m) (λ l m' h. h),
      )

  runs-turns : (m : Control) → Sets D (StepTurns m) None (runs m)
  unfolding admit
  runs-turns m =
      λ _ _ _ fresh. sets_bind D (PartTurns m) (StepTurns m) (enqueue m.registers.a m) (goes_on (pop m.registers)) None
      (enqueue-turns D m.registers.a m) (λ l m' h. h)

  yields-turns : (process : ℕ) (m : Control) → Sets D (StepTurns m) None (yields process m)
  yields-turns process m =
      λ fresh. inl (
        fresh,
        sets_bind D (PartTurns m) (StepTurns m) (enqueue process (at_rest m)) (λ m'. answer (m', Instruction))
            None (enqueue-turns D process (at_rest m)) (λ l m' h. h),
      )

  jumped_low-turns : (q : List ℕ) (m : Control) → Sets D (StepTurns m) None (jumped_low q m)
  jumped_low-turns [] m = stays m.high m.low
  jumped_low-turns (w ∷ ws) m = yields-turns (m.registers.wptr + 1) m

  jumped-turns : (p : ℕ) (m : Control) → Sets D (StepTurns m) None (jumped p m)
  jumped-turns zero m = stays m.high m.low
  jumped-turns (suc p) m =
      sets_if D (StepTurns m) (nat_le m.timeslice m.count) (jumped_low m.low m) (answer (m, Instruction)) None
      (jumped_low-turns m.low m) (stays m.high m.low)

  communicates-turns : (side : Side) (process : ℕ) (m : Control)
      → Sets D (StepTurns m) None (communicates side process m)
  communicates-turns side process m = let r : Registers = m.registers in
      message-turns D (pop (pop (pop r)))
      (record { process = process; side = side; channel = r.b; buffer = r.c; length = r.a }) m

  sends-turns : (length process : ℕ) (m : Control) → Sets D (StepTurns m) None (sends_from_workspace length process m)
  sends-turns length process m = let r : Registers = m.registers in
      message-turns D (pop (pop r))
      (record { process = process; side = Output; channel = r.b; buffer = r.wptr; length = length }) m

  -- an operation
  operation-turns : (o : Operation) (p : ℕ) (m : Control) → p < 2 → Sets D (StepTurns m) None (operation_step o p m)
  unfolding operation_step
  operation-turns op.Startp p m b = starts-turns p m b
  operation-turns op.Endp p m b = ends-turns m
  operation-turns op.Runp p m b = runs-turns m
  operation-turns op.Stopp p m b = stays m.high m.low
  operation-turns op.Stoperr p m b =
      sets_if D (StepTurns m) m.registers.error (stops m) (goes_on m.registers m) None (stays m.high m.low)
      (stays m.high m.low)
  operation-turns op.Ldpri p m b = stays m.high m.low
  operation-turns op.In p m b = communicates-turns Input (m.registers.wptr + p) m
  operation-turns op.Out p m b = communicates-turns Output (m.registers.wptr + p) m
  operation-turns op.Outbyte p m b = sends-turns 1 (m.registers.wptr + p) m
  operation-turns op.Outword p m b = sends-turns 4 (m.registers.wptr + p) m
  operation-turns op.Alt p m b = stays m.high m.low
  operation-turns op.Enbc p m b = enables_channel-turns (m.registers.wptr + p) m
  operation-turns op.Enbs p m b = enables_skip-turns m
  operation-turns op.Altwt p m b = awaits_choice-turns (m.registers.wptr + p) m
  operation-turns op.Disc p m b = disables_channel-turns m
  operation-turns op.Diss p m b = selects-turns m m m.registers.a (not (m.registers.b == 0)) refl refl
  operation-turns op.Altend p m b = λ v. stays m.high m.low
  operation-turns _ p m b = tt

  after-turns : (length p : ℕ) (m : Control) (r : Registers) (next : Next) → p < 2
      → Sets D (StepTurns m) None (after length p m r next)
  after-turns length p m r Go b = stays m.high m.low
  after-turns length p m r Jumped b = jumped-turns p (counted p (record m { registers = r }))
  after-turns length p m r (Schedule o) b =
      operation-turns o p (counted_by o p (record m { registers = record r { iptr = plus r.iptr length } })) b
  after-turns length p m r Halt b = stays m.high m.low

  instruction-turns : (p : ℕ) (m : Control) → p < 2 → Sets D (StepTurns m) None (instruction_step p m)
  unfolding instruction_step
  instruction-turns p m b =
      sets_bind D (λ l _. l ≡ None) (StepTurns m) (decode m.kind m.registers.iptr)
      (λ i. effect m.kind i m.registers >>= (λ r. after i.length p m r.0 r.1)) None
      (sets_none D (decode m.kind m.registers.iptr) None (decode-none m.kind m.registers.iptr)) (λ l i h.
      rw h (sets_bind D (λ l _. l ≡ None) (StepTurns m) (effect m.kind i m.registers)
      (λ r. after i.length p m r.0 r.1) None
      (sets_none D (effect m.kind i m.registers) None (effect-none m.kind i m.registers)) (λ l r k.
      rw k (after-turns i.length p m r.0 r.1 b))))

  -- a dispatch: the first of a queue leaves it
  low_step-turns : (q : List ℕ) (m : Control) → m.high ≡ q → Sets D (StepTurns m) None (low_step q m)
  low_step-turns [] m e = instruction-turns 1 m (omega arith)
  low_step-turns (w ∷ ws) m e = λ v. inl (refl, inr (w, e), inl refl)

  dispatch_low-turns : (q : List ℕ) (m : Control) → m.low ≡ q → Sets D (StepTurns m) None (dispatch_low q m)
  dispatch_low-turns [] m e = stays m.high m.low
  dispatch_low-turns (w ∷ ws) m e = λ v. inl (refl, inl refl, inr (w, e))

  dispatch_below-turns : (s : Option Suspended) (m : Control) → Sets D (StepTurns m) None (dispatch_below s m)
  dispatch_below-turns (Some s) m = stays m.high m.low
  dispatch_below-turns None m = dispatch_low-turns m.low m refl

  dispatch-turns : (q : List ℕ) (m : Control) → m.high ≡ q → Sets D (StepTurns m) None (dispatch q m)
  dispatch-turns [] m e = dispatch_below-turns m.interrupted m
  dispatch-turns (w ∷ ws) m e = λ v. inl (refl, inr (w, e), inl refl)

  running-turns : (o : Option ℕ) (m : Control) → Sets D (StepTurns m) None (running_step o m)
  running-turns None m = dispatch-turns m.high m refl
  running-turns (Some zero) m = instruction-turns 0 m (omega arith)
  running-turns (Some (suc p)) m = low_step-turns m.high m refl

  -- a step
  pub control-turns : (b : Bool) (m : Control) → Sets D (StepTurns m) None (control_step b m)
  control-turns true m = stays m.high m.low
  control-turns false m = running-turns m.current m

  -- the actions of links
  pub wakes-turns : (process : ℕ) (m : Control) → Sets D (PartTurns m) None (wakes process m)
  wakes-turns process m = inr (inl (refl, release-turns D process m))

  pub readies_queued-turns : (process : ℕ) (m : Control) → Sets D (PartTurns m) None (readies_queued process m)
  readies_queued-turns process m = λ v. by (v == enabling)
    where
      by : (b : Bool)
          → Sets D (PartTurns m) None
          ((if b then set_saved_word (workspace_of process) state_word ready else done) >> answer m)
      by true = inr (inl (refl, stays m.high m.low))
      by false = stays m.high m.low

  pub readies_running-turns : (process : ℕ) (m : Control) → Sets D (PartTurns m) None (readies_running process m)
  readies_running-turns process m = λ v. by (v == enabling)
    where
      by : (b : Bool)
          → Sets D (PartTurns m) None
          ((if b then write_word (word_below (workspace_of process) state_word) ready else done) >> answer m)
      by true = stays m.high m.low
      by false = stays m.high m.low

  pub finished-turns : (o : Option Offer) (m : Control) → Sets D (PartTurns m) None (finished o m)
  finished-turns None m = stays m.high m.low
  finished-turns (Some o) m = release-turns D o.wdesc m

  -- a process that is added
  pub added-turns : (process iptr : ℕ) (m : Control) → Sets D (PartTurns m) None (add_process process iptr m)
  unfolding admit
  added-turns process iptr m = λ _ _ _ fresh. inl (fresh, enqueue-turns D process m)
