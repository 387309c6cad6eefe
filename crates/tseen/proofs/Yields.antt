-- What a processor does at a jump at which its process yields.
use Rattle.std.proofs.Common.{◌≡◌, ℕ, ◌+◌, ◌-◌, ◌%◌, refl, sym, ap, ◌∙◌, List, [], ◌∷◌}
use Rattle.std.proofs.Common.{true, true≢false, length, get_or, Contains, Ok, Some, None, arith}
use Rattle.std.specs.Prelude.{◌==◌, nat_le, nat_lt}
use Rattle.std.proofs.lemmas.Bool.{eq-eqb, and_parts, ltb-true, or_left, or_right}
use Rattle.std.proofs.lemmas.Option.{slice_get-get_or}
use Rattle.tword.specs.Words.{word_below}
use Rattle.tword.specs.Stores.{Store, with_word}
use Rattle.tword.specs.Claims.{Claims, has_saved, saving}
use Rattle.tword.specs.Touches.{deschedule_break}
use Rattle.tword.specs.Actions.{Action, answer, run_from, with_saved_word, ◌>>=◌, ◌>>◌}
use Rattle.tcpu.specs.declared.registers.Registers.{Registers}
use Rattle.tcpu.specs.declared.registers.Next.TheVariants.{Jumped}
use Rattle.tproc.specs.declared.ran.Ran.TheVariants as ran
use Rattle.tproc.specs.Machine.{Control, workspace_of, priority_of}
use Rattle.tproc.specs.ProcessStatus.{queue}
use Rattle.tproc.specs.Queues.{appended, at_rest, enqueue, last_of, link_from}
use Rattle.tproc.specs.Channels.{StepAction}
use Rattle.tproc.specs.Scheduler.{counted, raised, jumped_low, yields as yielding}
use Rattle.tproc.specs.Steps.{after}
use Rattle.tseen.specs.Steps.{yields}
use Rattle.tseen.proofs.Adding.{last_contained}

-- a list that is not empty has a last one
pub last_there : (xs : List ℕ) → nat_lt 0 (length xs) ≡ true → (last : ℕ) × (last_of xs ≡ Some last) × Contains xs last
last_there xs h =
    let e : last_of xs ≡ Some (get_or xs (length xs - 1) 0) =
    slice_get-get_or xs (length xs - 1) 0 (omega (arith, ltb-true _ _ h)) in
    (get_or xs (length xs - 1) 0, e, last_contained xs (get_or xs (length xs - 1) 0) e)

low_yields : (low : List ℕ) (m : Control) → nat_lt 0 (length low) ≡ true
    → jumped_low low m ≡ yielding (m.registers.wptr + 1) m
low_yields [] m h = absurd (true≢false (sym h))
low_yields (w ∷ ws) m h = refl

-- a process is put behind the low ones
abbrev pub put_behind : Control → (priority workspace : ℕ) → Action Control
put_behind m priority w = link_from (last_of (queue m priority)) w >> answer (appended w priority m)

enqueued : (m : Control) (w : ℕ) → w % 4 ≡ 0 → enqueue (w + 1) m ≡ put_behind m 1 w
unfolding enqueue
enqueued m w aligned =
    let low : priority_of (w + 1) ≡ 1 = omega (arith, aligned) in
    let same : workspace_of (w + 1) ≡ w = omega (arith, aligned) in
    ap (λ q. put_behind m q (workspace_of (w + 1))) low ∙ ap (put_behind m 1) same

-- the end of a step that did an instruction
abbrev instruction_done : Control → StepAction
instruction_done m = answer (m, ran.Instruction)

-- the control after it
abbrev pub yielded : Control → Registers → Control
yielded m r = appended r.wptr 1 (at_rest (counted 1 (record m { registers = r })))

-- the store after it, where this process was the last low one
abbrev pub yielded_store : Store → Registers → (last : ℕ) → Store
yielded_store store r last = with_word (with_word store (word_below r.wptr 1) r.iptr) (word_below last 2) r.wptr

module _ (size : ℕ) (m : Control) (r : Registers) (old new : Store) (claims : Claims) (aligned : r.wptr % 4 ≡ 0)
    (saves : (v : ℕ) → Contains m.low v → has_saved claims v ≡ true)
    (passes : deschedule_break (length old) claims r.wptr ≡ None) (yields_now : yields m ≡ true) where
  abbrev after_jump : Control
  after_jump = counted 1 (record m { registers = r })

  pub parts : (nat_le m.timeslice (raised 1 m.count m.timeslice) ≡ true) × (nat_lt 0 (length m.low) ≡ true)
  parts = and_parts _ _ yields_now

  -- the last of the low processes
  abbrev pub last : ℕ
  last = (last_there m.low parts.1).0

  pub last_is : last_of m.low ≡ Some last
  last_is = (last_there m.low parts.1).1

  pub last_in : Contains m.low last
  last_in = (last_there m.low parts.1).2

  yields_so : after size 1 m r Jumped ≡ yielding (r.wptr + 1) after_jump
  yields_so = rw parts.0 (low_yields m.low after_jump parts.1)

  own_saved : (store : Store) → with_saved_word store (saving r.wptr claims) r.wptr 1 r.iptr
      ≡ with_word store (word_below r.wptr 1) r.iptr
  own_saved store = rw (or_left (r.wptr == r.wptr) (has_saved claims r.wptr) (eq-eqb r.wptr r.wptr refl)) refl

  last_saved : (store : Store) → with_saved_word store (saving r.wptr claims) last 2 r.wptr
      ≡ with_word store (word_below last 2) r.wptr
  last_saved store = rw (or_right (r.wptr == last) (has_saved claims last) (saves last last_in)) refl

  links : (store : Store) → run_from (put_behind (at_rest after_jump) 1 r.wptr >>=
      instruction_done) old (saving r.wptr claims) store
      ≡ Ok ((yielded m r, ran.Instruction), with_word store (word_below last 2) r.wptr)
  links store =
      ap (λ o. run_from (link_from o r.wptr >> answer (appended r.wptr 1 (at_rest after_jump)) >>=
      instruction_done) old (saving r.wptr claims) store) last_is
      ∙ ap (λ (st : Store). Ok ((yielded m r, ran.Instruction), st)) (last_saved store)

  pub yield_runs : run_from (after size 1 m r Jumped) old claims new
      ≡ Ok ((yielded m r, ran.Instruction), yielded_store new r last)
  yield_runs =
      ap (λ (x : StepAction). run_from x old claims new) yields_so
      ∙ rw passes (
      ap (λ (x : Action Control). run_from (x >>= instruction_done) old (saving r.wptr claims)
      (with_saved_word new (saving r.wptr claims) r.wptr 1 r.iptr)) (enqueued (at_rest after_jump) r.wptr aligned)
      ∙ ap (λ (st : Store). run_from (put_behind (at_rest after_jump) 1 r.wptr >>= instruction_done)
      old (saving r.wptr claims) st) (own_saved new)
      ∙ links (with_word new (word_below r.wptr 1) r.iptr))
