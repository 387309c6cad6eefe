-- What a processor does whose process sends on a channel that an alternative has enabled.
use Rattle.std.proofs.Common.{◌≡◌, ◌≢◌, ℕ, zero, suc, refl, sym, ap, ◌∙◌}
use Rattle.std.proofs.Common.{Bool, true, false, List, [], ◌∷◌, ◌++◌, cond, not}
use Rattle.std.proofs.Common.{length, Contains, None, Ok}
use Rattle.std.specs.Prelude.{◌==◌, if◌then◌else◌}
use Rattle.std.proofs.lemmas.Bool.{ne_eqb, or_right}
use Rattle.tword.specs.Actions.{answer, run_from, with_saved_word, ◌>>=◌}
use Rattle.tword.specs.Words.{word_below}
use Rattle.tword.specs.Stores.{Store, with_word, word_at}
use Rattle.tword.specs.Claims.{Claims, has_saved, saving}
use Rattle.tword.specs.Touches.{Writes, word_break, span_break, deschedule_break}
use Rattle.tcpu.specs.declared.registers.Registers.{Registers}
use Rattle.tproc.specs.Queues.{not_process, last_of, appended, without_waiter, waiting_for, release}
use Rattle.tproc.specs.declared.ran.Ran.TheVariants as ran
use Rattle.tproc.specs.declared.channels.Side.TheVariants.{Output}
use Rattle.tproc.specs.declared.waiter.Reason.{Reason}
use Rattle.tproc.specs.declared.waiter.Reason.TheVariants.{Chooses}
use Rattle.tproc.specs.declared.waiter.Waiter.{Waiter}
use Rattle.tproc.specs.declared.process_status.ProcessStatus.{ProcessStatus}
use Rattle.tproc.specs.declared.process_status.ProcessStatus.TheVariants.{Waits, Queued, Interrupted}
use Rattle.tproc.specs.Machine.{Control, workspace_of, priority_of}
use Rattle.tproc.specs.ProcessStatus.{queue, status}
use Rattle.tproc.specs.Channels.{Request, internal_message, waits_on_channel, meets, output_meets, mode_of}
use Rattle.tproc.specs.Channels.{reason_for, ready, is_choosing}
use Rattle.tproc.proofs.Waiters.{without}
use Rattle.tseen.proofs.Exchanged.{linked, released, high_with, low_with, release_then}
use Rattle.tseen.proofs.FirstWords.{waiting_store, own_side_run}

-- who waits without one of them, where another one came last
without_push : (ws : List Waiter) (x : Waiter) (other : ℕ) → x.process ≢ other
    → without other (ws ++ x ∷ []) ≡ without other ws ++ x ∷ []
without_push [] x other h = rw (ne_eqb x.process other h) refl
without_push (y ∷ ws) x other h = by (y.process == other) (without_push ws x other h)
  where
    by : (b : Bool) → without other (ws ++ x ∷ []) ≡ without other ws ++ x ∷ []
        → cond (not b) (y ∷ without other (ws ++ x ∷ [])) (without other (ws ++ x ∷ []))
        ≡ cond (not b) (y ∷ without other ws) (without other ws) ++ x ∷ []
    by true e = e
    by false e = ap (λ (zs : List Waiter). y ∷ zs) e

-- a process waits, and another one was released: in either order
waits_released : (m : Control) (process other : ℕ) (r : Reason) → process ≢ other → (q : ℕ)
    → waiting_for process r (appended (workspace_of other) q (without_waiter other m))
    ≡ record (waiting_for process r m) {
      high = high_with q (workspace_of other) m.high;
      low = low_with q (workspace_of other) m.low;
      waiting = without other (waiting_for process r m).waiting;
    }
waits_released m process other r apart zero =
    ap (λ (ws : List Waiter). record (waiting_for process r m) {
      high = high_with 0 (workspace_of other) m.high;
      low = m.low;
      waiting = ws;
    }) (sym (without_push m.waiting (record { process = process; reason = r }) other apart))
waits_released m process other r apart (suc q) =
    ap (λ (ws : List Waiter). record (waiting_for process r m) {
      high = m.high;
      low = low_with (suc q) (workspace_of other) m.low;
      waiting = ws;
    }) (sym (without_push m.waiting (record { process = process; reason = r }) other apart))

-- what has to hold where a process sends: it finds another one in the channel word
pub record MaySend (q : Request) (m : Control) (old : Store) (claims : Claims) (other : ℕ) : Type 0 where
  pub side : q.side ≡ Output
  pub take : word_break (length old) claims Writes q.channel ≡ None
  pub differs : word_at old q.channel ≢ not_process
  pub finds : word_at old q.channel ≡ other
  pub desch : deschedule_break (length old) claims m.registers.wptr ≡ None
  pub write : word_break (length old) (saving m.registers.wptr claims) Writes q.channel ≡ None
  pub touch : span_break (length old) (saving m.registers.wptr claims) (mode_of q.side)
      (record { start = q.buffer; size = q.length }) ≡ None

module _ (after : Registers) (q : Request) (m : Control) (old new : Store) (claims : Claims) (other : ℕ)
    (may : MaySend q m old claims other) where
  abbrev w : ℕ
  w = workspace_of other

  abbrev address : ℕ
  address = word_below w 3

  -- the state of the alternative is set
  abbrev pub readied : Store
  readied = with_word (waiting_store new q m.registers.wptr m.registers.iptr) address ready

  abbrev C : Claims
  C = saving m.registers.wptr claims

  own_then : (s : ProcessStatus) → status m other ≡ s
      → run_from (internal_message after q m) old claims new
      ≡ run_from (output_meets after q other s m) old claims new
  own_then s e =
      rw may.take (ap (λ t. run_from (if t then waits_on_channel q m else meets q.side after q
      (word_at old q.channel) m)
      old claims new) (ne_eqb (word_at old q.channel) not_process may.differs)
      ∙ ap (λ z. run_from (meets q.side after q z m) old claims new) may.finds
      ∙ ap (λ z. run_from (meets z after q other m) old claims new) may.side
      ∙ ap (λ z. run_from (output_meets after q other z m) old claims new) e)

  -- that of a process whose words are saved
  saved_ready : (saved : has_saved claims w ≡ true) (store : Store)
      → with_saved_word store C w 3 ready ≡ with_word store address ready
  saved_ready saved store = rw (or_right (m.registers.wptr == w) (has_saved claims w) saved) refl

  -- a process that is queued
  pub queued_run : status m other ≡ Queued → has_saved claims w ≡ true → is_choosing (word_at old address) ≡ true
      → run_from (internal_message after q m) old claims new
      ≡ Ok ((waiting_for q.process (reason_for q q.side) m, ran.Instruction), readied)
  queued_run stands saved choosing =
      own_then Queued stands
      ∙ rw (saved, choosing) (own_side_run q m _ old new claims may.desch may.write may.touch
      ∙ ap (λ (z : Store). Ok ((waiting_for q.process (reason_for q q.side) m, ran.Instruction), z))
      (saved_ready saved (waiting_store new q m.registers.wptr m.registers.iptr)))

  -- a process that was interrupted
  pub interrupted_run : status m other ≡ Interrupted → word_break (length old) claims Writes address ≡ None
      → is_choosing (word_at old address) ≡ true → address ≢ word_below m.registers.wptr 1
      → address ≢ word_below m.registers.wptr 2 → address ≢ word_below m.registers.wptr 3
      → word_break (length old) C Writes address ≡ None
      → run_from (internal_message after q m) old claims new
      ≡ Ok ((waiting_for q.process (reason_for q q.side) m, ran.Instruction), readied)
  interrupted_run stands takes choosing one two three writes =
      own_then Interrupted stands
      ∙ rw (takes, choosing) (own_side_run q m _ old new claims may.desch may.write may.touch
      ∙ rw (
        ne_eqb address (word_below m.registers.wptr 1) one,
        ne_eqb address (word_below m.registers.wptr 2) two,
        ne_eqb address (word_below m.registers.wptr 3) three,
        writes,
      ) refl)

  -- a process that waits
  pub waiting_run : status m other ≡ Waits Chooses → has_saved claims w ≡ true → q.process ≢ other
      → ((v : ℕ) → Contains (queue m (priority_of other)) v → has_saved claims v ≡ true)
      → run_from (internal_message after q m) old claims new
      ≡ Ok (
        (
          released (waiting_for q.process (reason_for q q.side) m).registers other
              (waiting_for q.process (reason_for q q.side) m),
          ran.Instruction,
        ),
        linked readied (last_of (queue m (priority_of other))) w,
      )
  waiting_run stands saved apart saves =
      own_then (Waits Chooses) stands
      ∙ own_side_run q m _ old new claims may.desch may.write may.touch
      ∙ ap (λ (z : Store). run_from (release other m >>= (λ m'. answer (
        waiting_for q.process (reason_for q q.side) m',
        ran.Instruction,
      ))) old C z) (saved_ready saved (waiting_store new q m.registers.wptr m.registers.iptr))
      ∙ release_then other m (λ m'. answer (waiting_for q.process (reason_for q q.side) m', ran.Instruction)) old
      readied C
      (λ v inside. or_right (m.registers.wptr == v) (has_saved claims v) (saves v inside))
      ∙ ap (λ (z : Control). Ok ((z, ran.Instruction), linked readied (last_of (queue m (priority_of other))) w))
      (waits_released m q.process other (reason_for q q.side) apart (priority_of other))
