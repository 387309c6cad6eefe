-- What the step of a process leaves that does `endp`.
use Rattle.tseen.proofs.Choices.{none_is}
use Rattle.std.proofs.Common.{◌≡◌, ◌≢◌, ℕ, ◌+◌, ◌*◌, ◌≤◌, refl, sym, ap, subst, ◌∙◌, Bool, true, false, length, Ok}
use Rattle.std.proofs.Common.{Option, Some, None, arith, ◌⊎◌, inl, inr, pos, ◌||◌, not}
use Rattle.std.specs.Prelude.{is_none, ◌==◌, negsuc, if◌then◌else◌}
use Rattle.std.specs.Int.{w32, from_le_bytes}
use Rattle.std.proofs.lemmas.Bool.{eq-eqb, ne_eqb}
use Rattle.tword.specs.Words.{most_neg, plus, minus}
use Rattle.tword.specs.Stores.{Store, place, word_at, with_word, shown}
use Rattle.tword.specs.Claims.{Claims}
use Rattle.tword.specs.declared.breaks.Break.TheVariants.{InTransit}
use Rattle.tword.specs.Touches.{Reads, Writes, word_break, word_place_break}
use Rattle.tword.specs.Actions.{run, run_from}
use Rattle.tcode.specs.declared.instruction.Operation.TheVariants.{Endp}
use Rattle.tcode.specs.declared.instruction.Instruction.{Instruction}
use Rattle.tcode.specs.Decoding.{decode}
use Rattle.tcpu.specs.declared.registers.Registers.{Registers}
use Rattle.tcpu.specs.declared.registers.Next.TheVariants.{Schedule}
use Rattle.tcpu.specs.Outcomes.{Outcome}
use Rattle.tproc.specs.declared.ran.Ran.TheVariants as ran
use Rattle.tproc.specs.Machine.{Control, claims_of}
use Rattle.tproc.specs.ProcessStatus.{is_live}
use Rattle.tproc.specs.Queues.{at_rest}
use Rattle.tproc.specs.Scheduler.{operation_step, ends as ends_there}
use Rattle.tproc.specs.Steps.{step}
use Rattle.tplan.specs.declared.plan.Plan.{Plan}
use Rattle.tnet.specs.Rendezvous.{Configuration}
use Rattle.tprocesses.specs.Places.{Name, WordAt, Sending, Life}
use Rattle.tprocesses.specs.Values.{Value, Use, Free, Spoilt, Word, Context, Ended, IsWord, word_in, amount_in}
use Rattle.tprocesses.specs.Changes.{Add, Decrement, apply, are_known, used_word, counted_down, decremented}
use Rattle.tprocesses.specs.Parts.{require, WordInUse, Doing, Breaks, done, stopping, change, unless, ◌>>=◌, ◌>>◌}
use Rattle.tprocesses.specs.Performing.{Performed}
use Rattle.tprocesses.specs.Touching.{Site, word_number, word_place, touch_word_at, unsent, is_zero}
use Rattle.tprocesses.specs.Standing.{known, ends}
use Rattle.tprocesses.specs.Scheduling.{schedules}
use Rattle.tprocesses.specs.Machine.{site_of}
use Rattle.tseen.specs.Known.{Knows}
use Rattle.tseen.specs.Steps.{IsCurrent, Makes, next_of}
use Rattle.tseen.specs.Ended.{count_address, left_to_end}
use Rattle.tseen.proofs.After.{after_require, State, changed, After, after_bind, after_unless, after_step}
use Rattle.tseen.proofs.Cells.{use_of, IsWhole}
use Rattle.tseen.proofs.Touched.{zero_is}
use Rattle.tseen.proofs.Written.{changed_there, changed_word}
use Rattle.tseen.proofs.Writing.{IsWordTouched, touch_word_at_then, word_lies}
use Rattle.tseen.proofs.Stored.{GoesOn, word_known}
use Rattle.tseen.proofs.Finished.{HasMoved, StandsNow, stands_then}
use Rattle.tseen.proofs.Running.{RunsThere}
use Rattle.tseen.proofs.Leaving.{nothing_moved}
use Rattle.tseen.proofs.Stepped.{there, step_then, Executed, step_is, next_is, one_next}
use Rattle.tseen.proofs.Scheduled.{unchanged, store_unchanged, context_there, registers_there, go_not_scheduled}
use Rattle.tseen.proofs.Scheduled.{jumped_not_scheduled, one_operation}

-- no pending output has a byte of a word
pub unsent_then : (site : Site) (j : ℕ) (s : State) (Q : Unit {0} → State → Type 0)
    → (amount_in (s (Sending site.number j)) ≡ pos 0 → Q tt s) → After (unsent site j) s Q
unsent_then site j s Q h = by (is_zero (amount_in (s (Sending site.number j)))) refl
  where
    by : (t : Bool) → is_zero (amount_in (s (Sending site.number j))) ≡ t
        → After (if t then done else stopping (Breaks InTransit)) s Q
    by true z = h (zero_is _ z)
    by false z = tt

-- what the processor does at `endp`, where others have still to end
pub ends_run : (m : Control) (store : Store) (claims : Claims)
    → word_break (length store) claims Reads m.registers.a ≡ None
    → word_break (length store) claims Writes (plus m.registers.a 4) ≡ None
    → word_at store (plus m.registers.a 4) ≢ 1
    → run_from (ends_there m) store claims store
    ≡ Ok (
      (at_rest m, ran.Instruction),
      with_word store (plus m.registers.a 4)
          (minus (word_at store (plus m.registers.a 4)) 1),
    )
ends_run m store claims reads writes more = rw (reads, writes, ne_eqb _ 1 more) (rw writes refl)

-- and at the last one: its successor runs
pub last_run : (m : Control) (store : Store) (claims : Claims)
    → word_break (length store) claims Reads m.registers.a ≡ None
    → word_break (length store) claims Writes (plus m.registers.a 4) ≡ None
    → word_at store (plus m.registers.a 4) ≡ 1
    → ((m.registers.a == m.registers.wptr) || not (is_live m m.registers.a)) ≡ true
    → run_from (ends_there m) store claims store
    ≡ Ok (
      (
        record m {
          registers = record m.registers {
            a = 0;
            b = 0;
            c = 0;
            iptr = word_at store m.registers.a;
            wptr = m.registers.a;
          };
        },
        ran.Instruction,
      ),
      with_word store (plus m.registers.a 4) 0,
    )
last_run m store claims reads writes last alone = rw (reads, writes, eq-eqb _ 1 last, alone) (rw writes refl)

-- a count after one of its processes has ended: it is spoilt, or it was free and as many are left in the store
abbrev pub lowered : (level left : ℕ) → Word
lowered level left = counted_down level (Some left)

lowered_or_spoilt : (level left : ℕ) (u : Use) (cells : Store)
    → (are_known cells ≡ true → from_le_bytes w32 (shown cells) ≡ left)
    → (decremented level u cells ≡ used_word Spoilt) ⊎ ((u ≡ Free) × (decremented level u cells ≡ lowered level left))
lowered_or_spoilt level left Free cells h = by (are_known cells) refl
  where
    by : (b : Bool) → are_known cells ≡ b
        → (counted_down level (if b then Some (from_le_bytes w32 (shown cells)) else None) ≡ used_word Spoilt)
        ⊎ ((Free ≡ Free) × (counted_down level (if b then Some (from_le_bytes w32 (shown cells)) else None)
        ≡ lowered level left))
    by true e = inr (refl, ap (lowered level) (h e))
    by false e = inl refl
lowered_or_spoilt level left _ cells h = inl refl

module _ (p : Plan) (c : Configuration) (s : State) (n : ℕ) (x : Name) (k : IsCurrent p c s n x) where
  abbrev pub m : Control
  m = k.node.machine.control

  abbrev pub store : Store
  store = k.node.machine.store

  abbrev pub site : Site
  site = site_of n k.plan

  abbrev pub running : RunsThere s n k.plan k.node x
  running = there p c s n x k

  abbrev pub a : ℕ
  a = m.registers.a

  -- the word that has the count, and how many are left
  abbrev pub number : ℕ
  number = word_number (count_address k.node.machine)

  abbrev pub left : ℕ
  left = left_to_end k.node.machine

  -- the control at the operation, after an instruction of this size
  abbrev pub at_end : ℕ → Control
  at_end size = record m { registers = record m.registers { iptr = plus m.registers.iptr size } }

  -- one process less has to end there, and this one has ended. before: the state once its code was read
  pub record HasCounted (z : State) : Type 0 where
    pub size : ℕ
    pub before : State
    pub on : GoesOn n k.plan.memory s before store store
    pub plain : running.context.choice ≡ None
    pub read : IsWordTouched site running.whole before Reads a
    pub placed : word_place_break k.plan.memory (plus a 4) ≡ None
    pub unsent : amount_in (before (Sending n number)) ≡ pos 0
    pub ended : StandsNow site x Ended (changed (Life n m.registers.wptr) (Add (negsuc 0))
        (changed (WordAt n number) (Decrement running.level) before)) z
    pub steps : (control : Control) (last : Store)
        → run_from (ends_there (at_end size)) store (claims_of m) store ≡ Ok ((control, ran.Instruction), last)
        → step k.node.machine ≡ Ok (record { control = control; store = last }, ran.Instruction)

  module _ (i : Instruction) (decodes : run (decode m.kind m.registers.iptr) store (claims_of m) ≡ Ok (i, store))
      (pp : Performed Outcome) (t : State) (d : Executed p c s n x k i pp t) (is : d.next ≡ Schedule Endp) (u : State)
      (moved_on : HasMoved site running.context.wptr d.after.wptr t u) where
    abbrev context : Context
    context = context_there p c s n x k i decodes pp t d Endp is

    abbrev Counted : Unit {0} → State → Type 0
    Counted _ z = HasCounted z

    nothing : u ≡ t
    nothing =
        nothing_moved site running.context.wptr d.after.wptr t u
        (registers_there p c s n x k i decodes pp t d Endp is).wptr moved_on

    on : GoesOn n k.plan.memory s u store store
    on =
        subst (λ (z : State). GoesOn n k.plan.memory s z store store) (sym nothing)
        (subst (λ (z : Store). GoesOn n k.plan.memory s t store z)
        (store_unchanged p c s n x k i decodes pp t d Endp is) d.on)

    steps : (control : Control) (last : Store)
        → run_from (ends_there (at_end i.length)) store (claims_of m) store ≡ Ok ((control, ran.Instruction), last)
        → step k.node.machine ≡ Ok (record { control = control; store = last }, ran.Instruction)
    unfolding operation_step
    steps control last e =
        step_is p c s n x k i pp t d control last decodes
        (rw (
          is,
          unchanged p c s n x k i decodes pp t d Endp is,
          store_unchanged p c s n x k i decodes pp t d Endp is,
        ) e)

    -- what is left to do once the workspace of the successor is known
    abbrev counts : ℕ → Doing
    counts w = do
      _ ← touch_word_at site Reads w
      unless (word_place_break site.size (plus w 4))
      unsent site (word_number (plus w 4))
      change (word_place site (plus w 4)) (Decrement context.priority)
      ends site x context

    counts_then : After (counts a) u Counted
    counts_then =
        after_bind (touch_word_at site Reads a) _ u Counted (touch_word_at_then site running.whole Reads a u _ (λ read.
        after_bind (unless (word_place_break site.size (plus a 4))) _ u Counted
        (after_unless (word_place_break site.size (plus a 4)) u _ (λ placed.
        after_bind (unsent site number) _ u Counted (unsent_then site number u _ (λ clear.
        after_bind (require (is_none context.choice) WordInUse) _
        (changed (WordAt n number) (Decrement context.priority) u) Counted
        (after_require (is_none context.choice) WordInUse _ _ (λ none.
        stands_then site p x Ended (changed (Life n context.wptr) (Add (negsuc 0))
        (changed (WordAt n number) (Decrement context.priority) u)) Counted (λ z ended. record {
          size = i.length;
          before = u;
          on = on;
          plain = none_is context.choice none;
          read = read;
          placed = placed;
          unsent = clear;
          ended = subst (λ w. StandsNow site x Ended (changed (Life n w) (Add (negsuc 0))
              (changed (WordAt n number) (Decrement running.level) u)) z) running.registers.wptr
              (subst (λ q. StandsNow site x Ended (changed (Life n context.wptr) (Add (negsuc 0))
              (changed (WordAt n number) (Decrement q) u)) z) running.registers.priority ended);
          steps = steps;
        })))))))))

    pub endp_then : After (schedules Endp site x context) u Counted
    endp_then = by context.a (registers_there p c s n x k i decodes pp t d Endp is).a
      where
        same_a : (registers : Registers) → registers ≡ m.registers → registers.a ≡ a
        same_a registers e = ap (λ (r : Registers). r.a) e

        by : (o : Option ℕ) → Knows o d.after.a → After (known o >>= counts) u Counted
        by None h = tt
        by (Some w) h =
            subst (λ z. After (counts z) u Counted)
            (sym (h ∙ same_a d.after (unchanged p c s n x k i decodes pp t d Endp is))) counts_then

-- the same holds after each such step
pub ends_counted : (p : Plan) (c : Configuration) (s s' : State) (n : ℕ) (x : Name) (k : IsCurrent p c s n x)
    → next_of k.node.machine ≡ Some (Schedule Endp) → Makes p x s s' → HasCounted p c s n x k s'
ends_counted p c s s' n x k next makes =
    after_step p x s s' (λ _ z. HasCounted p c s n x k z) makes
    (step_then p c s n x k (λ _ z. HasCounted p c s n x k z) (λ i decodes pp t. record {
      goes = λ d e u w.
          absurd (go_not_scheduled Endp (sym e ∙ one_next (sym (next_is p c s n x k i pp t decodes d) ∙ next)));
      jumps = λ d e u w f still.
          absurd (jumped_not_scheduled Endp (sym e ∙ one_next (sym (next_is p c s n x k i pp t decodes d) ∙ next)));
      schedules = λ d o e u w.
          let same : o ≡ Endp =
          one_operation (sym e ∙ one_next (sym (next_is p c s n x k i pp t decodes d) ∙ next)) in
          subst (λ z. After (schedules z (site_of n k.plan) x
          (context_there p c s n x k i decodes pp t d o e)) u (λ _ z. HasCounted p c s n x k z)) (sym same)
          (endp_then p c s n x k i decodes pp t d (e ∙ ap Schedule same) u w);
    }))

-- what stands after it
module _ (p : Plan) (c : Configuration) (s : State) (n : ℕ) (x : Name) (k : IsCurrent p c s n x) (z : State)
    (h : HasCounted p c s n x k z) where
  -- words change by the count alone
  pub other_word_counted : (j : ℕ) → (number p c s n x k ≡ j → ⊥) → z (WordAt n j) ≡ h.before (WordAt n j)
  other_word_counted j e =
      h.ended.others (WordAt n j) refl
      ∙ changed_word n (number p c s n x k) (Decrement (running p c s n x k).level) h.before j e

  -- the count lies in the memory
  pub count_lies : (place (plus (a p c s n x k) 4) ≡ 4 * number p c s n x k) × (most_neg ≤ plus (a p c s n x k) 4)
      × (4 * number p c s n x k + 4 ≤ k.plan.memory)
  count_lies = word_lies (site p c s n x k) (running p c s n x k).whole (plus (a p c s n x k) 4) h.placed

  -- it is lowered, or spoilt
  pub counted : (z (WordAt n (number p c s n x k)) ≡ IsWord (used_word Spoilt))
      ⊎ ((use_of h.before n (number p c s n x k) ≡ Free)
      × (z (WordAt n (number p c s n x k)) ≡ IsWord (lowered (running p c s n x k).level (left p c s n x k))))
  counted = by (lowered_or_spoilt level (left p c s n x k) whole.word.used whole.word.cells is_left)
    where
      level : ℕ
      level = (running p c s n x k).level

      whole : IsWhole (h.before (WordAt n (number p c s n x k)))
      whole = h.on.tells.words (number p c s n x k) count_lies.2

      at_count : most_neg + 4 * number p c s n x k ≡ plus (a p c s n x k) 4
      at_count = omega (arith, count_lies.0, count_lies.1)

      is_left : are_known whole.word.cells ≡ true → from_le_bytes w32 (shown whole.word.cells) ≡ left p c s n x k
      is_left e =
          ap (λ (v : Value). from_le_bytes w32 (shown (word_in v).cells)) (sym whole.is)
          ∙ word_known n k.plan.memory h.before (store p c s n x k) (number p c s n x k) h.on.tells count_lies.2
          (ap (λ (v : Value). are_known (word_in v).cells) whole.is ∙ e)
          ∙ ap (word_at (store p c s n x k)) at_count

      there_now : z (WordAt n (number p c s n x k)) ≡ IsWord (decremented level whole.word.used whole.word.cells)
      there_now =
          h.ended.others (WordAt n (number p c s n x k)) refl
          ∙ changed_there n (number p c s n x k) (Decrement level) h.before
          ∙ ap (apply (Decrement level)) whole.is

      by : (decremented level whole.word.used whole.word.cells ≡ used_word Spoilt)
          ⊎ ((whole.word.used ≡ Free)
          × (decremented level whole.word.used whole.word.cells ≡ lowered level (left p c s n x k)))
          → (z (WordAt n (number p c s n x k)) ≡ IsWord (used_word Spoilt))
          ⊎ ((use_of h.before n (number p c s n x k) ≡ Free)
          × (z (WordAt n (number p c s n x k)) ≡ IsWord (lowered level (left p c s n x k))))
      by (inl e) = inl (there_now ∙ ap IsWord e)
      by (inr e) =
          inr (ap (λ (v : Value). (word_in v).used) whole.is ∙ e.0, there_now ∙ ap IsWord e.1)
