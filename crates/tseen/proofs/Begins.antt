-- What a processor does whose process begins another one.
use Rattle.std.proofs.Common.{◌≡◌, ℕ, ◌+◌, refl, ap, ◌∙◌, true, false, not, length, Ok, Option, Some, None}
use Rattle.std.specs.Prelude.{◌==◌}
use Rattle.std.proofs.lemmas.Bool.{eq-eqb, or_left}
use Rattle.tword.specs.declared.breaks.Break.TheVariants.{Unaligned, AlreadyLive, TooManyProcesses}
use Rattle.tword.specs.Words.{plus, word_below}
use Rattle.tword.specs.Stores.{Store, with_word}
use Rattle.tword.specs.Claims.{Claims, has_saved, saving}
use Rattle.tword.specs.Touches.{is_aligned, deschedule_break}
use Rattle.tword.specs.Actions.{Action, Deed, answer, run_from, with_saved_word, deschedule, set_saved_word, require}
use Rattle.tword.specs.Actions.{◌>>=◌, ◌>>◌}
use Rattle.tcode.specs.declared.instruction.Operation.TheVariants.{Startp, Runp}
use Rattle.tcpu.specs.Outcomes.{pop}
use Rattle.tproc.specs.declared.ran.Ran.TheVariants as ran
use Rattle.tproc.specs.Machine.{Control, workspace_of, priority_of}
use Rattle.tproc.specs.ProcessStatus.{queue, is_live, has_room}
use Rattle.tproc.specs.Queues.{appended, admit, enqueue, last_of, link_from, iptr_word}
use Rattle.tproc.specs.Channels.{StepAction, goes_on}
use Rattle.tproc.specs.Scheduler.{operation_step}
use Rattle.tseen.proofs.Added.{linked}
use Rattle.tseen.proofs.Yields.{put_behind}

-- a process is let in, and put behind others
abbrev admit_at : ℕ → Control → Deed
admit_at w m = do
  require (is_aligned w) Unaligned
  require (not (is_live m w)) AlreadyLive
  require (has_room m) TooManyProcesses
  deschedule w

module _ (m : Control) (process w level : ℕ) (at : workspace_of process ≡ w) (of : priority_of process ≡ level)
    (old : Store) (claims : Claims) (aligned : is_aligned w ≡ true) (new : is_live m w ≡ false)
    (room : has_room m ≡ true) (passes : deschedule_break (length old) claims w ≡ None) where
  admitted : {A : Type 0} (next : Unit {0} → Action A) (store : Store)
      → run_from (admit process m >>= next) old claims store ≡ run_from (next tt) old (saving w claims) store
  unfolding admit
  admitted next store =
      ap (λ v. run_from (admit_at v m >>= next) old claims store) at
      ∙ rw (aligned, new, room) (rw passes refl)

  enqueued : {A : Type 0} (next : Control → Action A) (store : Store)
      → run_from (enqueue process m >>= next) old (saving w claims) store
      ≡ run_from (next (appended w level m)) old (saving w claims)
      (linked (saving w claims) (last_of (queue m level)) w store)
  unfolding enqueue
  enqueued next store =
      ap (λ v. run_from (put_behind m (priority_of process) v >>= next) old (saving w claims) store) at
      ∙ ap (λ q. run_from (put_behind m q w >>= next) old (saving w claims) store) of
      ∙ by (last_of (queue m level))
    where
      by : (o : Option ℕ)
          → run_from (link_from o w >> answer (appended w level m) >>= next) old (saving w claims) store
          ≡ run_from (next (appended w level m)) old (saving w claims) (linked (saving w claims) o w store)
      by None = refl
      by (Some last) = refl

  -- `runp`
  pub runp_runs : (q : ℕ) (store : Store) → m.registers.a ≡ process
      → run_from (operation_step Runp q m) old claims store
      ≡ Ok (
        (record (appended w level m) { registers = pop m.registers }, ran.Instruction),
        linked (saving w claims) (last_of (queue m level)) w store,
      )
  unfolding operation_step
  runp_runs q store e =
      ap (λ v. run_from (admit v m >> (enqueue v m >>= (λ m'. goes_on (pop m.registers) m'))) old claims store) e
      ∙ admitted (λ _. enqueue process m >>= (λ m'. goes_on (pop m.registers) m')) store
      ∙ enqueued (λ m'. goes_on (pop m.registers) m') store

  own_saved : (v : ℕ) (store : Store)
      → with_saved_word store (saving w claims) w 1 v ≡ with_word store (word_below w 1) v
  own_saved v store = rw (or_left (w == w) (has_saved claims w) (eq-eqb w w refl)) refl

  -- `startp`
  pub startp_runs : (q : ℕ) (store : Store) → m.registers.a ≡ w → w + q ≡ process
      → run_from (operation_step Startp q m) old claims store
      ≡ Ok (
        (record (appended w level m) { registers = pop (pop m.registers) }, ran.Instruction),
        linked (saving w claims) (last_of (queue m level)) w
            (with_word store (word_below w 1) (plus m.registers.iptr m.registers.b)),
      )
  unfolding operation_step
  startp_runs q store e f =
      ap (λ v. run_from (start_at v (v + q)) old claims store) e
      ∙ ap (λ z. run_from (start_at w z) old claims store) f
      ∙ rw aligned (admitted (λ _. set_saved_word w iptr_word first >> (enqueue process m >>=
      (λ m'. goes_on (pop (pop m.registers)) m'))) store
      ∙ ap (λ (st : Store). run_from (enqueue process m >>= (λ m'. goes_on (pop (pop m.registers)) m')) old
      (saving w claims) st) (own_saved first store)
      ∙ enqueued (λ m'. goes_on (pop (pop m.registers)) m') (with_word store (word_below w 1) first))
    where
      first : ℕ
      first = plus m.registers.iptr m.registers.b

      start_at : (a process : ℕ) → StepAction
      start_at a process =
          require (is_aligned a) Unaligned >> (admit process m >> (set_saved_word a iptr_word first >>
          (enqueue process m >>= (λ m'. goes_on (pop (pop m.registers)) m'))))
