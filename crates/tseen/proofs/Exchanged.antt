-- What a processor does whose process meets another at an internal channel.
use Rattle.std.proofs.Common.{◌≡◌, ◌≢◌, ℕ, zero, suc, refl, ap, ◌∙◌, true, List, [], ◌∷◌, ◌++◌, length, Contains}
use Rattle.std.proofs.Common.{Option, Some, None, Ok}
use Rattle.std.specs.Prelude.{if◌then◌else◌}
use Rattle.std.proofs.lemmas.Bool.{eq-eqb, ne_eqb}
use Rattle.tword.specs.Actions.{Action, answer, ◌>>=◌, ◌>>◌, run_from}
use Rattle.tword.specs.Words.{word_below}
use Rattle.tword.specs.Stores.{Store, cells, with_cells, with_word, word_at}
use Rattle.tword.specs.declared.span.Span.{Span}
use Rattle.tword.specs.Claims.{Claims, has_saved}
use Rattle.tword.specs.Touches.{Writes, word_break, span_break, copy_break}
use Rattle.tcpu.specs.declared.registers.Registers.{Registers}
use Rattle.tproc.specs.Queues.{link_from, enqueue, not_process, last_of, appended, without_waiter, release}
use Rattle.tproc.specs.declared.ran.Ran.TheVariants as ran
use Rattle.tproc.specs.declared.channels.Side.{Side}
use Rattle.tproc.specs.declared.channels.Side.TheVariants.{Input, Output}
use Rattle.tproc.specs.Machine.{Control, workspace_of, priority_of}
use Rattle.tproc.specs.ProcessStatus.{queue, reason_of, not_waiting, status_by}
use Rattle.tproc.specs.Channels.{Request, internal_message, waits_on_channel, meets, input_meets, output_meets}
use Rattle.tproc.specs.Channels.{mode_of}
use Rattle.tproc.specs.Channels.{goes_on}
use Rattle.tproc.proofs.Waiters.{without}
use Rattle.tseen.specs.Halves.{reason_at}
use Rattle.tseen.proofs.Adding.{last_contained}
use Rattle.tseen.proofs.Taken.{opposite}

-- a workspace is put behind those of its priority
abbrev pub high_with : (priority workspace : ℕ) → List ℕ → List ℕ
high_with zero w high = high ++ w ∷ []
high_with (suc q) w high = high

abbrev pub low_with : (priority workspace : ℕ) → List ℕ → List ℕ
low_with zero w low = low
low_with (suc q) w low = low ++ w ∷ []

-- the control where another process was released, and these registers go on
abbrev pub released : Registers → (other : ℕ) → Control → Control
released after other m =
    record m {
      registers = after;
      high = high_with (priority_of other) (workspace_of other) m.high;
      low = low_with (priority_of other) (workspace_of other) m.low;
      waiting = without other m.waiting;
    }

released_is : (after : Registers) (other : ℕ) (m : Control) (q : ℕ)
    → record (appended (workspace_of other) q (without_waiter other m)) { registers = after }
    ≡ record m {
      registers = after;
      high = high_with q (workspace_of other) m.high;
      low = low_with q (workspace_of other) m.low;
      waiting = without other m.waiting;
    }
released_is after other m zero = refl
released_is after other m (suc q) = refl

same_queue : (other : ℕ) (m : Control) (q : ℕ) → queue (without_waiter other m) q ≡ queue m q
same_queue other m zero = refl
same_queue other m (suc q) = refl

-- the store where the last one of a queue, if there is one, was linked to it
abbrev pub linked : Store → Option ℕ → (workspace : ℕ) → Store
linked store None w = store
linked store (Some last) w = with_word store (word_below last 2) w

-- a process that waits is queued, and then something else is done
pub release_then : {A : Type 0} (other : ℕ) (m : Control) (f : Control → Action A) (old new : Store) (claims : Claims)
    → ((v : ℕ) → Contains (queue m (priority_of other)) v → has_saved claims v ≡ true)
    → run_from (release other m >>= f) old claims new
    ≡ run_from (f (appended (workspace_of other) (priority_of other) (without_waiter other m))) old claims
    (linked new (last_of (queue m (priority_of other))) (workspace_of other))
unfolding release enqueue
release_then other m f old new claims saves =
    ap (λ (q : List ℕ). run_from (link_from (last_of q) (workspace_of other)
    >> answer (appended (workspace_of other) (priority_of other) (without_waiter other m)) >>= f) old
    claims new) (same_queue other m (priority_of other))
    ∙ by (last_of (queue m (priority_of other))) refl
  where
    by : (l : Option ℕ) → last_of (queue m (priority_of other)) ≡ l
        → run_from (link_from l (workspace_of other)
        >> answer (appended (workspace_of other) (priority_of other) (without_waiter other m)) >>= f) old claims new
        ≡ run_from (f (appended (workspace_of other) (priority_of other) (without_waiter other m))) old claims
        (linked new l (workspace_of other))
    by None e = refl
    by (Some last) e = rw (saves last (last_contained (queue m (priority_of other)) last e)) refl

release_run : (after : Registers) (other : ℕ) (m : Control) (old new : Store) (claims : Claims)
    → ((v : ℕ) → Contains (queue m (priority_of other)) v → has_saved claims v ≡ true)
    → run_from (release other m >>= goes_on after) old claims new
    ≡ Ok (
      (released after other m, ran.Instruction),
      linked new (last_of (queue m (priority_of other))) (workspace_of other),
    )
release_run after other m old new claims saves =
    release_then other m (goes_on after) old new claims saves
    ∙ ap (λ (z : Control). Ok (
      (z, ran.Instruction),
      linked new (last_of (queue m (priority_of other))) (workspace_of other),
    )) (released_is after other m (priority_of other))

-- where the bytes of a message are, and where they go
abbrev pub from_of : Side → (own other : ℕ) → ℕ
from_of Input own other = other
from_of Output own other = own

abbrev pub to_of : Side → (own other : ℕ) → ℕ
to_of Input own other = own
to_of Output own other = other

-- the store after the copy
abbrev pub exchanged_store : Store → (channel from to count : ℕ) → Store
exchanged_store store channel from to count =
    with_cells (with_word store channel not_process) to (cells (with_word store channel not_process) from count)

-- what has to hold where the two meet
pub record MayMeet (m : Control) (old : Store) (claims : Claims) (side : Side) (channel buffer size other : ℕ)
    (span : Span) : Type 0 where
  pub take : word_break (length old) claims Writes channel ≡ None
  pub differs : word_at old channel ≢ not_process
  pub finds : word_at old channel ≡ other
  pub waits : reason_of m other ≡ Some (reason_at (opposite side) channel span)
  pub sizes : span.size ≡ size
  pub own_touch : span_break (length old) claims (mode_of side) (record { start = buffer; size = size }) ≡ None
  pub other_touch : span_break (length old) claims (mode_of (opposite side)) span ≡ None
  pub copies : copy_break (length old) claims (from_of side buffer span.start) (to_of side buffer span.start) size
      ≡ None
  pub saves : (v : ℕ) → Contains (queue m (priority_of other)) v → has_saved claims v ≡ true

met_run : (side : Side) (after : Registers) (m : Control) (old new : Store) (claims : Claims)
    (process channel buffer size other : ℕ) (span : Span)
    → MayMeet m old claims side channel buffer size other span
    → run_from (meets side after (record {
      process = process;
      side = side;
      channel = channel;
      buffer = buffer;
      length = size;
    }) other m) old claims new
    ≡ Ok (
      (released after other m, ran.Instruction),
      linked (exchanged_store new channel (from_of side buffer span.start) (to_of side buffer span.start) size)
          (last_of (queue m (priority_of other))) (workspace_of other),
    )
met_run Input after m old new claims process channel buffer size other span h =
    ap (λ r. run_from (input_meets after (record {
      process = process;
      side = Input;
      channel = channel;
      buffer = buffer;
      length = size;
    }) other (status_by r (not_waiting m other)) m) old claims new) h.waits
    ∙ rw (eq-eqb channel channel refl, eq-eqb span.size size h.sizes, h.own_touch, h.other_touch, h.take, h.copies)
    (release_run after other m old _ claims h.saves)
met_run Output after m old new claims process channel buffer size other span h =
    ap (λ r. run_from (output_meets after (record {
      process = process;
      side = Output;
      channel = channel;
      buffer = buffer;
      length = size;
    }) other (status_by r (not_waiting m other)) m) old claims new) h.waits
    ∙ rw (eq-eqb channel channel refl, eq-eqb span.size size h.sizes, h.own_touch, h.other_touch, h.take, h.copies)
    (release_run after other m old _ claims h.saves)

-- a process comes to a channel at which another waits
pub meeting_run : (after : Registers) (q : Request) (m : Control) (old new : Store) (claims : Claims) (other : ℕ)
    (span : Span) → MayMeet m old claims q.side q.channel q.buffer q.length other span
    → run_from (internal_message after q m) old claims new
    ≡ Ok (
      (released after other m, ran.Instruction),
      linked (exchanged_store new q.channel (from_of q.side q.buffer span.start) (to_of q.side q.buffer span.start)
          q.length) (last_of (queue m (priority_of other))) (workspace_of other),
    )
meeting_run after q m old new claims other span h =
    rw h.take (ap (λ t. run_from (if t then waits_on_channel q m else meets q.side after q (word_at old q.channel) m)
    old claims new) (ne_eqb (word_at old q.channel) not_process h.differs)
    ∙ ap (λ z. run_from (meets q.side after q z m) old claims new) h.finds
    ∙ met_run q.side after m old new claims q.process q.channel q.buffer q.length other span h)
