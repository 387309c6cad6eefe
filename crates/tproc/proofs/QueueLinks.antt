-- The one queue link at most that an action sets, where it queues a process: the rows of messages do no more.
use Rattle.std.proofs.Common.{◌≡◌, ℕ, zero, suc, refl, sym, ap, List, [], ◌∷◌, ◌++◌, false, Option, Some, None, ◌⊎◌}
use Rattle.std.proofs.Common.{inl, inr}
use Rattle.std.specs.Prelude.{◌==◌, if◌then◌else◌, option_map}
use Rattle.tword.specs.Words.{word_below}
use Rattle.tword.specs.Actions.{answer, ◌>>=◌, write_word, set_saved_word}
use Rattle.tcpu.specs.declared.registers.Registers.{Registers}
use Rattle.tproc.specs.declared.ran.Ran.{Ran}
use Rattle.tproc.specs.declared.ran.Ran.TheVariants.{Instruction}
use Rattle.tproc.specs.Machine.{Control, workspace_of, priority_of}
use Rattle.tproc.specs.declared.waiter.Reason.TheVariants.{Receives, Sends, Chooses}
use Rattle.tproc.specs.declared.process_status.ProcessStatus.{ProcessStatus}
use Rattle.tproc.specs.declared.process_status.ProcessStatus.TheVariants.{Waits, Queued, Interrupted}
use Rattle.tproc.specs.ProcessStatus.{status, is_among, queue}
use Rattle.tproc.specs.Queues.{appended, not_process, iptr_word, link_word, state_word, last_of, link_from, enqueue}
use Rattle.tproc.specs.Queues.{release, without_waiter, waiting_for}
use Rattle.tproc.specs.declared.channels.Side.{Side}
use Rattle.tproc.specs.declared.channels.Side.TheVariants.{Input, Output}
use Rattle.tproc.specs.Channels.{ready, set_touched_word, Request, waits_on_channel, exchanged, reason_for, input_meets}
use Rattle.tproc.specs.Channels.{output_meets, meets, internal_message, goes_on, own_side}
use Rattle.tproc.specs.LinkChannels.{offered, is_link, link_message, message}
use Rattle.tproc.specs.SavedWords.{IsRestOf}
use Rattle.tproc.proofs.SavedSets.{Sets, sets_bind, sets_if}

-- the queue of a priority
abbrev pub queue_of : ℕ → (high low : List ℕ) → List ℕ
queue_of zero high low = high
queue_of (suc p) high low = low

-- a workspace has come behind the others of the queue of a priority
abbrev pub IsBehind : (priority workspace : ℕ) → (high low high' low' : List ℕ) → Type 0
IsBehind zero w high low high' low' = (high' ≡ high ++ w ∷ []) × (low' ≡ low)
IsBehind (suc p) w high low high' low' = (high' ≡ high) × (low' ≡ low ++ w ∷ [])

-- the queues after an action, by the link that it set: no link, and each queue is as it was or has lost its first; or
-- one process has come, and the last of its queue is linked to it
abbrev pub Turns : (high low high' low' : List ℕ) → Option (ℕ × ℕ) → Type 0
Turns high low high' low' link =
    ((link ≡ None) × IsRestOf high high' × IsRestOf low low')
    ⊎ ((p : ℕ) × (w : ℕ) × (link ≡ option_map (λ last. (last, w)) (last_of (queue_of p high low)))
    × IsBehind p w high low high' low')

-- the answers of steps and of parts
abbrev pub StepTurns : Control → Option (ℕ × ℕ) → Control × Ran → Type 0
StepTurns m link r = Turns m.high m.low r.0.high r.0.low link

abbrev pub PartTurns : Control → Option (ℕ × ℕ) → Control → Type 0
PartTurns m link m' = Turns m.high m.low m'.high m'.low link

-- nothing of the queues changes
pub stays : (high low : List ℕ) → Turns high low high low None
stays high low = inl (refl, inl refl, inl refl)

appended-turns : (p w : ℕ) (m : Control) (link : Option (ℕ × ℕ))
    → link ≡ option_map (λ last. (last, w)) (last_of (queue m p)) → PartTurns m link (appended w p m)
appended-turns zero w m link e = inr (zero, w, e, (refl, refl))
appended-turns (suc p) w m link e = inr (suc p, w, e, (refl, refl))

offered-stays : (side : Side) (q : Request) (m : Control) → PartTurns m None (offered q side m)
offered-stays Input q m = stays m.high m.low
offered-stays Output q m = stays m.high m.low

-- D: the workspaces that are watched
module _ (D : List ℕ) where
  -- a process is queued, or queued after it waited
  pub enqueue-turns : (process : ℕ) (m : Control) → Sets D (PartTurns m) None (enqueue process m)
  unfolding enqueue
  enqueue-turns process m = by (last_of (queue m (priority_of process))) refl
    where
      w : ℕ
      w = workspace_of process

      by : (o : Option ℕ) → last_of (queue m (priority_of process)) ≡ o
          → Sets D (PartTurns m) None (link_from o w >>= (λ _. answer (appended w (priority_of process) m)))
      by None e = appended-turns (priority_of process) w m None (ap (option_map (λ last. (last, w))) (sym e))
      by (Some last) e =
          inr (inr (
            refl,
            refl,
            appended-turns (priority_of process) w m (Some (last, w)) (ap (option_map (λ v. (v, w))) (sym e)),
          ))

  pub release-turns : (process : ℕ) (m : Control) → Sets D (PartTurns m) None (release process m)
  unfolding release
  release-turns process m = enqueue-turns process (without_waiter process m)

  -- messages on channels
  exchanged-turns : (r : Registers) (q : Request) (other from to : ℕ) (m : Control)
      → Sets D (StepTurns m) None (exchanged r q other from to m)
  exchanged-turns r q other from to m =
      sets_bind D (PartTurns m) (StepTurns m) (release other m) (goes_on r) None (release-turns other m) (λ l m' h. h)

  input_meets-turns : (r : Registers) (q : Request) (other : ℕ) (at : ProcessStatus) (m : Control)
      → Sets D (StepTurns m) None (input_meets r q other at m)
  input_meets-turns r q other (Waits (Sends channel buffer length)) m =
      λ _ _. exchanged-turns r q other buffer q.buffer m
  input_meets-turns r q other _ m = tt

  set_touched-turns : (w address v : ℕ) → is_among w D ≡ false
      → Sets D (λ l _. l ≡ None) None (set_touched_word w address v)
  set_touched-turns w address v fresh =
      sets_if D Q (address == word_below w iptr_word) (set_saved_word w iptr_word v)
      (if address == word_below w link_word then set_saved_word w link_word v
      else (if address == word_below w state_word then set_saved_word w state_word v else write_word address v))
      None (inl (fresh, refl))
      (sets_if D Q (address == word_below w link_word) (set_saved_word w link_word v)
      (if address == word_below w state_word then set_saved_word w state_word v else write_word address v) None
      (inl (fresh, refl))
      (sets_if D Q (address == word_below w state_word) (set_saved_word w state_word v) (write_word address v) None
      (inl (fresh, refl)) refl))
    where
      Q : Option (ℕ × ℕ) → Unit {0} → Type 0
      Q l _ = l ≡ None

  output_meets-turns : (r : Registers) (q : Request) (other : ℕ) (at : ProcessStatus) (m : Control)
      → Sets D (StepTurns m) None (output_meets r q other at m)
  unfolding own_side
  output_meets-turns r q other (Waits (Receives channel buffer length)) m =
      λ _ _. exchanged-turns r q other q.buffer buffer m
  output_meets-turns r q other (Waits Chooses) m = λ fresh. inl (
    fresh,
    inl (
      fresh,
      inr (inl (
        refl,
        sets_bind D (PartTurns m) (StepTurns m) (release other m)
            (λ m'. answer (waiting_for q.process (reason_for q q.side) m', Instruction)) None (release-turns other m)
            (λ l m' h. h),
      )),
    ),
  )
  output_meets-turns r q other Queued m = λ _ _ fresh. inl (fresh, inl (fresh, inr (inl (refl, stays m.high m.low))))
  output_meets-turns r q other Interrupted m = λ _ _ fresh. inl (
    fresh,
    inl (
      fresh,
      sets_bind D (λ l _. l ≡ None) (StepTurns m)
          (set_touched_word m.registers.wptr (word_below (workspace_of other) state_word) ready)
          (λ _. answer (waiting_for q.process (reason_for q q.side) m, Instruction)) None
          (set_touched-turns m.registers.wptr (word_below (workspace_of other) state_word) ready fresh)
          (λ l _ h. inl (h, inl refl, inl refl)),
    ),
  )
  output_meets-turns r q other _ m = tt

  meets-turns : (side : Side) (r : Registers) (q : Request) (other : ℕ) (m : Control)
      → Sets D (StepTurns m) None (meets side r q other m)
  meets-turns Input r q other m = input_meets-turns r q other (status m other) m
  meets-turns Output r q other m = output_meets-turns r q other (status m other) m

  internal-turns : (r : Registers) (q : Request) (m : Control) → Sets D (StepTurns m) None (internal_message r q m)
  unfolding own_side
  internal-turns r q m = λ v.
      sets_if D (StepTurns m) (v == not_process) (waits_on_channel q m) (meets q.side r q v m) None
      (λ fresh. inl (fresh, inl (fresh, stays m.high m.low))) (meets-turns q.side r q v m)

  pub message-turns : (r : Registers) (q : Request) (m : Control) → Sets D (StepTurns m) None (message r q m)
  message-turns r q m =
      sets_if D (StepTurns m) (is_link q.channel) (link_message q m) (internal_message r q m) None
      (λ _ _ _ _ fresh. inl (fresh, offered-stays q.side q m)) (internal-turns r q m)
