-- The first guard that is true and ready when it is disabled is selected.
use Rattle.std.proofs.Common.{◌≡◌, ◌≢◌, ℕ, zero, suc, ◌+◌, refl, sym, ap, subst, cond, ◌∙◌, List, [], ◌∷◌, Bool}
use Rattle.std.proofs.Common.{true, false, not, ◌&&◌, Result, Ok, Err, Option, Some, None}
use Rattle.std.specs.Prelude.{◌==◌, IfSome, is_none, unwrap_or, option_map, option_and_then, find}
use Rattle.std.proofs.lemmas.Bool.{eq-eqb, ne_eqb}
use Rattle.tword.specs.declared.kind.Kind.{Kind}
use Rattle.tword.specs.declared.breaks.Break.{Break}
use Rattle.tword.specs.Words.{plus}
use Rattle.tword.specs.Stores.{Store, word_at}
use Rattle.tword.specs.Claims.{Claims}
use Rattle.tword.specs.Actions.{answer, run, value_of, ◌>>=◌}
use Rattle.tcode.specs.declared.instruction.Function.{Function}
use Rattle.tcode.specs.declared.instruction.Function.TheVariants as function
use Rattle.tcode.specs.declared.instruction.Operation.{Operation}
use Rattle.tcode.specs.declared.instruction.Operation.TheVariants.{Altwt, Disc, Diss}
use Rattle.tcode.specs.declared.instruction.Instruction.{Instruction as Decoded}
use Rattle.tcode.specs.Decoding.{decode}
use Rattle.tcpu.specs.declared.registers.Registers.{Registers}
use Rattle.tcpu.specs.declared.registers.Next.TheVariants.{Schedule}
use Rattle.tcpu.specs.Outcomes.{flag}
use Rattle.tcpu.specs.Operations.{operation_effect}
use Rattle.tcpu.specs.Effects.{effect, effect_at}
use Rattle.tproc.specs.declared.ran.Ran.{Ran}
use Rattle.tproc.specs.declared.ran.Ran.TheVariants.{Instruction}
use Rattle.tproc.specs.Machine.{Control, Machine, claims_of}
use Rattle.tproc.specs.Channels.{StepAction}
use Rattle.tproc.specs.Alternatives.{none_selected, awaits_choice, selects, disables_channel}
use Rattle.tproc.specs.Scheduler.{operation_step, counted_by}
use Rattle.tproc.specs.Steps.{step, acted, control_step, running_step, low_step, instruction_step, after}
use Rattle.tproc.specs.Doing.{moved_on}
use Rattle.tproc.specs.Selection.{operation_of, operation_by, next_operation, is_ready, Guard, guard_of, IsDisabled}
use Rattle.tproc.specs.Selection.{Turn, Disables, Passes, AreTurns, left_by, guards, IsChoice, FirstReadyIsSelected}
use Rattle.tproc.specs.Selection.{SelectedIsTold}
use Rattle.tproc.proofs.Ends.{ends_run}
use Rattle.tproc.proofs.Quiet.{begins_decode}
use Rattle.tproc.proofs.Disabling.{IsSelected, Selects, selects-ends, disables-ends, awaits-ends}

-- an operation that is none of the local ones is left to the scheduler
scheduled : (kind : Kind) (i : Decoded) (r : Registers) (o : Operation) → operation_of kind i.function i.operand
    ≡ Some o
    → ((r' : Registers) → operation_effect o r' ≡ None) → effect kind i r ≡ answer (r, Schedule o)
unfolding effect
scheduled kind i r o e h = by i.function e
  where
    after_it : Registers
    after_it = record r { iptr = plus r.iptr i.length }

    by : (f : Function) → operation_of kind f i.operand ≡ Some o → effect_at kind f i.operand r after_it
        ≡ answer (r, Schedule o)
    by function.Opr e = rw (e, h _) refl
    by _ e = cc

-- the step of a processor whose next operation is known
module _ (n n' : Machine) (x : Ran) (o : Operation) (left : (r : Registers) → operation_effect o r ≡ None) where
  -- it is that operation, of the control that has moved on by the instruction
  record IsStepOf : Type 0 where
    pub priority : ℕ
    pub size : ℕ
    pub ran : run (operation_step o priority (counted_by o priority (moved_on size n.control))) n.store
        (claims_of n.control) ≡ Ok ((n'.control, x), n'.store)

  -- what ran
  what_ran : (y : StepAction) → acted n.store (run y n.store (claims_of n.control)) ≡ Ok (n', x)
      → run y n.store (claims_of n.control) ≡ Ok ((n'.control, x), n'.store)
  what_ran y h = by (run y n.store (claims_of n.control)) h
    where
      by : (z : Result ((Control × Ran) × Store) Break) → acted n.store z ≡ Ok (n', x)
          → z ≡ Ok ((n'.control, x), n'.store)
      by (Ok ((m1, x1), s1)) f =
          let p : ◌≡◌ {A = Machine × Ran} (record { control = m1; store = s1 }, x1) (n', x) = cc in
          ap (λ (q : Machine × Ran). Ok ((q.0.control, q.1), q.0.store)) p
      by (Err b) f = cc

  -- one instruction
  instruction : (p : ℕ) (i : Decoded)
      → Ok i ≡ value_of (run (decode n.control.kind n.control.registers.iptr) n.store (claims_of n.control))
      → operation_of n.control.kind i.function i.operand ≡ Some o
      → run (instruction_step p n.control) n.store (claims_of n.control) ≡ Ok ((n'.control, x), n'.store) → IsStepOf
  unfolding instruction_step
  instruction p i e f h =
      record {
        priority = p;
        size = i.length;
        ran = rw (
          begins_decode n.control.kind n.control.registers.iptr (claims_of n.control) n.store (Ok i) e
              (λ i. effect n.control.kind i n.control.registers >>= (λ r. after i.length p n.control r.0 r.1)),
          scheduled n.control.kind i n.control.registers o f left,
        ) at h;
      }

  -- it is the one that runs next
  runs_low : (p : ℕ) (high : List ℕ) (y : Result Decoded Break)
      → y ≡ value_of (run (decode n.control.kind n.control.registers.iptr) n.store (claims_of n.control))
      → operation_by n.control.kind (Some (suc p)) high y ≡ Some o
      → run (low_step high n.control) n.store (claims_of n.control) ≡ Ok ((n'.control, x), n'.store) → IsStepOf
  runs_low p [] (Ok i) e f h = instruction 1 i e f h
  runs_low p [] (Err b) e f h = cc
  runs_low p (w ∷ ws) y e f h = cc

  runs_next : (current : Option ℕ) (y : Result Decoded Break)
      → y ≡ value_of (run (decode n.control.kind n.control.registers.iptr) n.store (claims_of n.control))
      → operation_by n.control.kind current n.control.high y ≡ Some o
      → run (running_step current n.control) n.store (claims_of n.control) ≡ Ok ((n'.control, x), n'.store) → IsStepOf
  runs_next None y e f h = cc
  runs_next (Some zero) (Ok i) e f h = instruction 0 i e f h
  runs_next (Some zero) (Err b) e f h = cc
  runs_next (Some (suc p)) y e f h = runs_low p n.control.high y e f h

  is_step_of : next_operation n ≡ Some o → step n ≡ Ok (n', x) → IsStepOf
  unfolding step
  is_step_of e f = by n.control.halted e f
    where
      by : (b : Bool)
          → cond b None
          (operation_by n.control.kind n.control.current n.control.high
          (value_of (run (decode n.control.kind n.control.registers.iptr) n.store (claims_of n.control)))) ≡ Some o
          → acted n.store (run (control_step b n.control) n.store (claims_of n.control)) ≡ Ok (n', x) → IsStepOf
      by true e f = cc
      by false e f =
          runs_next n.control.current (value_of (run (decode n.control.kind n.control.registers.iptr) n.store
          (claims_of n.control)))
          refl e (what_ran (running_step n.control.current n.control) f)

-- a step that disables a guard
disabled_selects : (w : ℕ) (n n' : Machine) (g : Guard) → IsDisabled w n g n'
    → IsSelected w n.store g.offset g.is_ready n'.control.registers n'.store
unfolding operation_step operation_effect
disabled_selects w n n' g h = by (next_operation n) refl h.guard
  where
    -- the guard is this one
    as_guard : (x : Guard) → ◌≡◌ {A = Option Guard} (Some x) (Some g) → x ≡ g
    as_guard x e = cc

    at_guard : (x : Guard) → ◌≡◌ {A = Option Guard} (Some x) (Some g)
        → IsSelected n.control.registers.wptr n.store x.offset x.is_ready n'.control.registers n'.store
        → IsSelected w n.store g.offset g.is_ready n'.control.registers n'.store
    at_guard x e k =
        subst (λ (v : ℕ). IsSelected v n.store g.offset g.is_ready n'.control.registers n'.store) h.workspace
        (subst (λ (y : Guard). IsSelected n.control.registers.wptr n.store y.offset y.is_ready n'.control.registers
        n'.store) (as_guard x e) k)

    channel_of : (x : Guard) → ◌≡◌ {A = Option Guard} (Some x) (Some g) → x.channel ≢ Some n.control.registers.wptr
    channel_of x e k = h.channel (ap (λ (y : Guard). y.channel) (sym (as_guard x e)) ∙ k ∙ ap Some h.workspace)

    by_channel : IsStepOf n n' Instruction Disc (λ r. refl) → guard_of Disc n ≡ Some g
        → IsSelected w n.store g.offset g.is_ready n'.control.registers n'.store
    by_channel k f =
        let m : Control = counted_by Disc k.priority (moved_on k.size n.control) in
        let r : (d : Claims)
        × IsSelected n.control.registers.wptr n.store n.control.registers.a
        (not (n.control.registers.b == 0) && is_ready n.control.registers.c n) n'.control.registers n'.store =
        ends_run (Selects n.control.registers.wptr n.store n.control.registers.a
        (not (n.control.registers.b == 0) && is_ready n.control.registers.c n)) (disables_channel m) n.store n.store
        (claims_of n.control) (n'.control, Instruction) n'.store
        (disables-ends n.store m (claims_of n.control) h.placed.words.a (channel_of _ f)) k.ran in
        at_guard _ f r.1

    by_skip : IsStepOf n n' Instruction Diss (λ r. refl) → guard_of Diss n ≡ Some g
        → IsSelected w n.store g.offset g.is_ready n'.control.registers n'.store
    by_skip k f =
        let m : Control = counted_by Diss k.priority (moved_on k.size n.control) in
        let r : (d : Claims)
        × IsSelected n.control.registers.wptr n.store n.control.registers.a (not (n.control.registers.b == 0))
        n'.control.registers n'.store =
        ends_run (Selects n.control.registers.wptr n.store n.control.registers.a (not (n.control.registers.b == 0)))
        (selects n.control.registers.a (not (n.control.registers.b == 0)) m) n.store n.store (claims_of n.control)
        (n'.control, Instruction) n'.store
        (selects-ends n.store n.control.registers.wptr n.control.registers.a (not (n.control.registers.b == 0)) m
        (claims_of n.control) n.store refl h.placed.words.a refl (λ l. refl)) k.ran in
        at_guard _ f r.1

    by : (y : Option Operation) → next_operation n ≡ y → option_and_then (λ o. guard_of o n) y ≡ Some g
        → IsSelected w n.store g.offset g.is_ready n'.control.registers n'.store
    by None e f = cc
    by (Some Disc) e f = by_channel (is_step_of n n' Instruction Disc (λ r. refl) e h.done) f
    by (Some Diss) e f = by_skip (is_step_of n n' Instruction Diss (λ r. refl) e h.done) f
    by (Some _) e f = cc

-- what `altwt` leaves
awaited_none : (w : ℕ) (n m : Machine) (turns : List Turn) → IsChoice w n m turns → word_at m.store w ≡ none_selected
unfolding operation_step operation_effect
awaited_none w n m turns h =
    let k : IsStepOf n m Instruction Altwt (λ r. refl) = is_step_of n m Instruction Altwt (λ r. refl) h.awaits h.done in
    let c : Control = counted_by Altwt k.priority (moved_on k.size n.control) in
    let r : (d : Claims) × (word_at m.store n.control.registers.wptr ≡ none_selected) =
    ends_run (λ d y s. word_at s n.control.registers.wptr ≡ none_selected)
    (awaits_choice (n.control.registers.wptr + k.priority) c) n.store n.store (claims_of n.control)
    (m.control, Instruction) m.store
    (awaits-ends n.store (n.control.registers.wptr + k.priority) c (claims_of n.control) h.placed.words.wptr) k.ran in
    rw (← h.workspace) r.1

-- the first of two, where there is one
abbrev or_first : Option ℕ → Option ℕ → Option ℕ
or_first (Some x) o = Some x
or_first None o = o

-- the offset of the first guard of a list that is ready
abbrev first_of : List Guard → Option ℕ
first_of gs = option_map (λ (g : Guard). g.offset) (find (λ (g : Guard). g.is_ready) gs)

-- word 0 tells the first, which is an offset
abbrev Tells : ℕ → Machine → Option ℕ → Type 0
Tells w n first = (word_at n.store w ≡ unwrap_or first none_selected) × IfSome first (λ x. x ≢ none_selected)

-- word 0, after the turns, where a first one was selected before them or none was
selected_after : (w : ℕ) (n : Machine) (turns : List Turn) (o : Option ℕ) → AreTurns w n turns
    → IfSome o (λ x. x ≢ none_selected) → word_at n.store w ≡ unwrap_or o none_selected
    → Tells w (left_by n turns) (or_first o (first_of (guards turns)))
selected_after w n [] (Some x) h k e = (e, k)
selected_after w n [] None h k e = (e, tt)
selected_after w n (Passes n' ∷ turns) o h k e = selected_after w n' turns o h.1 k (h.0 ∙ e)
selected_after w n (Disables g n' ∷ turns) (Some x) h k e =
    let none : (word_at n.store w == none_selected) ≡ false = rw e (ne_eqb x none_selected k) in
    let s : IsSelected w n.store g.offset g.is_ready n'.control.registers n'.store = disabled_selects w n n' g h.0 in
    selected_after w n' turns (Some x) h.1 k (s.held ∙ stands g.is_ready (word_at n.store w == none_selected) none ∙ e)
  where
    stands : (b t : Bool) → t ≡ false → cond (b && t) g.offset (word_at n.store w) ≡ word_at n.store w
    stands true t q = rw q refl
    stands false t q = refl
selected_after w n (Disables g n' ∷ turns) None h k e =
    by g.is_ready refl (selected_after w n' turns (Some g.offset) h.1 h.0.offset)
    (selected_after w n' turns None h.1 tt)
  where
    s : IsSelected w n.store g.offset g.is_ready n'.control.registers n'.store
    s = disabled_selects w n n' g h.0

    none : (word_at n.store w == none_selected) ≡ true
    none = eq-eqb _ _ e

    by : (b : Bool) → g.is_ready ≡ b → (word_at n'.store w ≡ g.offset → Tells w (left_by n' turns) (Some g.offset))
        → (word_at n'.store w ≡ none_selected → Tells w (left_by n' turns) (first_of (guards turns)))
        → Tells w (left_by n' turns)
        (option_map (λ (g : Guard). g.offset) (cond b (Some g) (find (λ (g : Guard). g.is_ready) (guards turns))))
    by true q there rest = there (s.held ∙ rw (q, none) refl)
    by false q there rest = rest (s.held ∙ rw (q, e) refl)

pub first_ready_is_selected : FirstReadyIsSelected
first_ready_is_selected w n m turns h = (selected_after w m turns None h.follow tt (awaited_none w n m turns h)).0

pub selected_is_told : SelectedIsTold
selected_is_told w n m turns h g n' k =
    (disabled_selects w (left_by m turns) n' g k).told
    ∙ ap (λ (t : Bool). flag (g.is_ready && t)) (by (first_of (guards turns)) a.0 a.1)
  where
    a : Tells w (left_by m turns) (first_of (guards turns))
    a = selected_after w m turns None h.follow tt (awaited_none w n m turns h)

    by : (o : Option ℕ) → word_at (left_by m turns).store w ≡ unwrap_or o none_selected
        → IfSome o (λ x. x ≢ none_selected) → (word_at (left_by m turns).store w == none_selected) ≡ is_none o
    by None e q = eq-eqb _ _ e
    by (Some x) e q = rw e (ne_eqb x none_selected q)
