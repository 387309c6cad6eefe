-- What a placement gives to the code of a step, and what the code's step is to the machine.
use Rattle.std.proofs.Common.{◌≡◌, ◌∙◌, ℕ, zero, suc, ◌+◌, ◌-◌, ◌<◌, ◌≤◌, ◌%◌, ◌^◌, refl, sym, ap, subst, cond, List}
use Rattle.std.proofs.Common.{[], ◌∷◌, ◌||◌, ◌==◌, Bool, true, false, Result, Ok, Err, Option, Some, None, length}
use Rattle.std.proofs.Common.{get_or, arith}
use Rattle.std.specs.Prelude.{IfSome, IfOk, IsSome, All, find, option_map, nat_le, unwrap_or}
use Rattle.std.specs.List.{list_any}
use Rattle.std.proofs.lemmas.Bool.{both_ways, eq-eqb, or_right, leb-true, leb-false}
use Rattle.tword.specs.declared.breaks.Break.{Break}
use Rattle.tword.specs.Words.{most_neg}
use Rattle.tword.specs.Stores.{Store, place, word_at, byte_at, with_word, with_cells, as_cells, cells}
use Rattle.tword.specs.Claims.{Claims, is_input, overlap, saved_words, saving}
use Rattle.tword.specs.Touches.{Writes, is_inside, span_break, word_break, byte_span, deschedule_break, copy_break}
use Rattle.tword.specs.Actions.{Action, answer, breaks, requiring, unmet, touching_word, touching_byte, touching}
use Rattle.tword.specs.Actions.{writing_word, writing_byte, copying, descheduling, reading_saved, setting_saved, unless}
use Rattle.tword.specs.Actions.{run, run_from, saved_word_at, with_saved_word, set_saved_word, ◌>>=◌, value_of}
use Rattle.tword.proofs.Answering.{answering, run_from-answering}
use Rattle.tword.proofs.Hiding.{overlap-from}
use Rattle.tword.proofs.SameClaims.{SameClaims, run_from-same}
use Rattle.tcode.specs.declared.instruction.Instruction.{Instruction}
use Rattle.tcode.specs.Decoding.{decode}
use Rattle.tproc.specs.declared.offer.Offer.{Offer}
use Rattle.tproc.specs.declared.ran.Ran.{Ran}
use Rattle.tproc.specs.declared.ran.Ran.TheVariants as ran
use Rattle.tproc.specs.declared.waiter.LinkEnd.{LinkEnd}
use Rattle.tproc.specs.declared.waiter.Reason.{Reason}
use Rattle.tproc.specs.declared.waiter.Reason.TheVariants.{LinkInput, LinkOutput}
use Rattle.tproc.specs.declared.waiter.Waiter.{Waiter}
use Rattle.tproc.specs.Machine.{Control, Machine, buffer_of, workspace_of, descheduled, claims_of}
use Rattle.tproc.specs.ProcessStatus.{is_among, reason_of}
use Rattle.tproc.specs.Queues.{iptr_word, admit, enqueue, add_process}
use Rattle.tproc.specs.LinkChannels.{link_end, quiet_end}
use Rattle.tproc.specs.Placement.{IsPlaced, WaitsFor, IsBuffer}
use Rattle.tproc.specs.Steps.{step, control_step, step_left_by, step_answered, acted}
use Rattle.tproc.specs.Resting.{IfRests}
use Rattle.tproc.specs.Links.{act_or_unchanged, or_unchanged}
use Rattle.tproc.specs.Messages.{output_of, input_of}
use Rattle.tproc.specs.Opening.{Adds, added, only_machine}
use Rattle.tproc.specs.Agreement.{Agrees}
use Rattle.tproc.specs.declared.engine.Engine.{Engine}
use Rattle.tproc.specs.Doing.{CameOf, Does, Stepped, as_step, adding, machine_of}
use Rattle.tproc.proofs.ClaimState.{HasWaiter}
use Rattle.tproc.proofs.LinkClaims.{apart_from_input}
use Rattle.tproc.proofs.Pending.{at_some}
use Rattle.tproc.proofs.Occurs.{found}
use Rattle.tproc.proofs.Opening.{added_keeps_placed, loaded_keeps_placed}
use Rattle.tproc.proofs.Placed.{step_keeps_placed}
use Rattle.tproc.proofs.Resting.{rest_changes_nothing}
use Rattle.tproc.proofs.Storing.{buffer_inside}

-- what some element passes, some element of a list with the same elements passes
any_within : (f : ℕ → Bool) (xs ys : List ℕ) → ((w : ℕ) → is_among w xs ≡ true → is_among w ys ≡ true)
    → list_any f xs ≡ true → list_any f ys ≡ true
any_within f [] ys h k = cc
any_within f (x ∷ xs) ys h k = by (f x) refl k (any_within f xs ys (λ w m. h w (or_right (x == w) _ m)))
  where
    by : (b : Bool) → f x ≡ b → (b || list_any f xs) ≡ true → (list_any f xs ≡ true → list_any f ys ≡ true)
        → list_any f ys ≡ true
    by true e l rest = found f x ys e (h x (rw (eq-eqb x x refl) refl))
    by false e l rest = rest l

any_same : (f : ℕ → Bool) (xs ys : List ℕ) → ((w : ℕ) → is_among w xs ≡ is_among w ys) → list_any f xs ≡ list_any f ys
any_same f xs ys h = by (list_any f xs) (list_any f ys) refl refl
  where
    by : (a b : Bool) → list_any f xs ≡ a → list_any f ys ≡ b → a ≡ b
    by true true d e = refl
    by false false d e = refl
    by true false d e = let k : list_any f ys ≡ true = any_within f xs ys (λ w m. sym (h w) ∙ m) d in cc
    by false true d e = let k : list_any f xs ≡ true = any_within f ys xs (λ w m. h w ∙ m) e in cc

-- claims that agree say the same of each touch as those of the control
pub same_from : (c : Claims) (m : Control) → Agrees c m → SameClaims c (claims_of m)
same_from c m h =
    record {
      inputs = h.on.inputs;
      outputs = h.on.outputs;
      saved = λ span. any_same (λ w. overlap span (saved_words w)) c.saved (descheduled m) h.on.saved;
      has = h.on.saved;
    }

-- a step of an engine is the step of its machine
pub stepped : (e e' : Engine) (r : Result Ran Break) → Does (control_step e.state.halted e.state) e r e'
    → Stepped (machine_of e) r (machine_of e')
unfolding step
stepped e e' r h =
    by (run (control_step e.state.halted e.state) e.claimed.memory.bytes (claims_of e.state)) refl
    (rw (run_from-same (control_step e.state.halted e.state) e.claimed.memory.bytes e.claimed.memory.bytes
    e.claimed.marks
    (claims_of e.state) (same_from e.claimed.marks e.state e.agrees)) at h)
  where
    by : (y : Result ((Control × Ran) × Store) Break)
        → run (control_step e.state.halted e.state) e.claimed.memory.bytes (claims_of e.state) ≡ y
        → CameOf y e.state e.claimed.memory.bytes r e'.state e'.claimed.memory.bytes → Stepped (machine_of e) r
        (machine_of e')
    by (Ok ((m1, x), s1)) q d = record { left = rw (q, ← d.1, ← d.2) refl; answered = rw q d.0 }
    by (Err b) q d = record { left = rw (q, d.1, d.2) refl; answered = rw q d.0 }

-- and keeps the placement
pub placed_after : (n n' : Machine) → IsPlaced n → n' ≡ step_left_by n (step n) → IsPlaced n'
placed_after n n' p h = by (step n) refl h
  where
    by : (y : Result (Machine × Ran) Break) → step n ≡ y → n' ≡ step_left_by n y → IsPlaced n'
    by (Ok (m, x)) e k = step_keeps_placed n n' x p (rw k e)
    by (Err b) e k = subst IsPlaced (sym k) p

-- an action of the control alone is made on the machine of an engine, or nothing is
pub acted_or_unchanged : (action : Control → Action Control) (e e' : Engine) (r : Result Ran Break)
    → Does (as_step (action e.state)) e r e' → machine_of e' ≡ act_or_unchanged action (machine_of e)
acted_or_unchanged action e e' r h =
    rw (run_from-answering {B = Control × Unit {0}} (λ (m : Control). (m, tt)) (action e.state) e.claimed.memory.bytes
    (claims_of e.state) e.claimed.memory.bytes)
    (by (run (action e.state) e.claimed.memory.bytes (claims_of e.state))
    (rw (
      run_from-answering {B = Control × Ran} (λ (m : Control). (m, ran.Instruction)) (action e.state)
          e.claimed.memory.bytes
          e.claimed.marks e.claimed.memory.bytes,
      run_from-same (action e.state) e.claimed.memory.bytes e.claimed.memory.bytes e.claimed.marks (claims_of e.state)
          (same_from e.claimed.marks e.state e.agrees),
    ) at
    h))
  where
    by : (y : Result (Control × Store) Break)
        → CameOf (answering {B = Control × Ran} (λ (m : Control). (m, ran.Instruction)) y) e.state
        e.claimed.memory.bytes r e'.state e'.claimed.memory.bytes
        → machine_of e' ≡ or_unchanged (machine_of e)
        (acted e.claimed.memory.bytes (answering {B = Control × Unit {0}} (λ (m : Control). (m, tt)) y))
    by (Ok (m1, s1)) d = rw (← d.1, ← d.2) refl
    by (Err b) d = rw (d.1, d.2) refl

-- a step that was no step changed nothing
pub rests : (n n' : Machine) (r : Result Ran Break) → n' ≡ step_left_by n (step n) → r ≡ step_answered (step n)
    → IfOk r (λ x. IfRests x (n' ≡ n))
rests n n' r l a = by (step n) refl l a
  where
    by : (y : Result (Machine × Ran) Break) → step n ≡ y → n' ≡ step_left_by n y → r ≡ step_answered y
        → IfOk r (λ x. IfRests x (n' ≡ n))
    by (Ok (m, x)) e k h = rw (h, k) (rest_changes_nothing n m x e)
    by (Err b) e k h = rw h tt

-- a process that waits has a reason
reason_found : (ws : List Waiter) (p : ℕ) (r : Reason) → HasWaiter ws p r
    → IsSome (option_map (λ (w : Waiter). w.reason) (find (λ (w : Waiter). w.process == p) ws))
reason_found [] p r h = absurd (omega (arith, h.1))
reason_found (x ∷ xs) p r (zero, b, e) = let f : (x.process == p) ≡ true =
    eq-eqb _ _ (ap (λ (w : Waiter). w.process) e) in rw f refl
reason_found (x ∷ xs) p r (suc k, b, e) = by (x.process == p) (reason_found xs p r (k, (omega arith), e))
  where
    by : (b : Bool) → IsSome (option_map (λ (w : Waiter). w.reason) (find (λ (w : Waiter). w.process == p) xs))
        → IsSome (option_map (λ (w : Waiter). w.reason) (cond b (Some x) (find (λ (w : Waiter). w.process == p) xs)))
    by true h = refl
    by false h = h

-- so has that of a pending message
pub output_waits : (n : Machine) (l : ℕ) → IsPlaced n
    → IfSome (link_end n.control l).output (λ o. IsSome (reason_of n.control o.wdesc))
output_waits n l p = by (link_end n.control l).output (p.claimed.outputs l)
  where
    by : (o : Option Offer) → IfSome o (λ o. WaitsFor n.control o.wdesc (LinkOutput l) × IsBuffer (length n.store) o)
        → IfSome o (λ o. IsSome (reason_of n.control o.wdesc))
    by None h = tt
    by (Some o) h = reason_found n.control.waiting o.wdesc (LinkOutput l) h.0

pub input_waits : (n : Machine) (l : ℕ) → IsPlaced n
    → IfSome (link_end n.control l).input (λ o. IsSome (reason_of n.control o.wdesc))
input_waits n l p = by (link_end n.control l).input (p.claimed.inputs l)
  where
    by : (o : Option Offer) → IfSome o (λ o. WaitsFor n.control o.wdesc (LinkInput l) × IsBuffer (length n.store) o)
        → IfSome o (λ o. IsSome (reason_of n.control o.wdesc))
    by None h = tt
    by (Some o) h = reason_found n.control.waiting o.wdesc (LinkInput l) h.0

-- a link where something is pending is there
pub past_the_end : (ls : List LinkEnd) (l : ℕ) → length ls ≤ l → get_or ls l quiet_end ≡ quiet_end
past_the_end [] l h = refl
past_the_end (x ∷ xs) zero h = absurd (omega arith)
past_the_end (x ∷ xs) (suc l) h = past_the_end xs l (omega arith)

bad : (o : Option Offer) → o ≡ None → IsSome o → ⊥
bad None e h = cc
bad (Some x) e h = cc

pub output_within : (n : Machine) (l : ℕ) → IsPlaced n → IsSome (output_of n l) → l < 4
output_within n l p h = by (nat_le 4 l) refl
  where
    by : (b : Bool) → nat_le 4 l ≡ b → l < 4
    by false e = leb-false _ _ e
    by true e = let f : link_end n.control l ≡ quiet_end =
        past_the_end n.control.links l (omega (arith, p.claimed.links, leb-true 4 l e)) in
        absurd (bad (link_end n.control l).output (ap (λ (e : LinkEnd). e.output) f) h)

pub input_within : (n : Machine) (l : ℕ) → IsPlaced n → IsSome (input_of n l) → l < 4
input_within n l p h = by (nat_le 4 l) refl
  where
    by : (b : Bool) → nat_le 4 l ≡ b → l < 4
    by false e = leb-false _ _ e
    by true e = let f : link_end n.control l ≡ quiet_end =
        past_the_end n.control.links l (omega (arith, p.claimed.links, leb-true 4 l e)) in
        absurd (bad (link_end n.control l).input (ap (λ (e : LinkEnd). e.input) f) h)

pub input_byte : (n : Machine) (l k : ℕ) (o : Offer) → IsPlaced n → input_of n l ≡ Some o → k < o.length
    → (most_neg ≤ o.buffer + k) × (o.buffer + k - most_neg + 1 ≤ length n.store)
input_byte n l k o p e h =
    let w : WaitsFor n.control o.wdesc (LinkInput l) × IsBuffer (length n.store) o =
    at_some (link_end n.control l).input _ o e (p.claimed.inputs l) in
    let b : (most_neg ≤ o.buffer) × (place o.buffer + o.length ≤ length n.store) =
    buffer_inside (length n.store) o w.1 in
    (omega (arith, b.0, h), omega (arith, b.0, b.1, h))

-- and is claimed as one of an input
pub input_byte_claimed : (c : Claims) (m : Control) (l k : ℕ) (o : Offer) → Agrees c m → (link_end m l).input ≡ Some o
    → k < o.length → is_input c (byte_span (o.buffer + k)) ≡ true
input_byte_claimed c m l k o agrees e h = by (is_input c (byte_span (o.buffer + k))) refl
  where
    by : (b : Bool) → is_input c (byte_span (o.buffer + k)) ≡ b → is_input c (byte_span (o.buffer + k)) ≡ true
    by true f = f
    by false f =
        absurd (both_ways (overlap (byte_span (o.buffer + k)) (buffer_of o))
        (apart_from_input (byte_span (o.buffer + k)) m.links l o e (rw agrees.on.inputs at f))
        (overlap-from (byte_span (o.buffer + k)) (buffer_of o) (omega arith) (omega (arith, h)) (omega (arith, h))
        (omega arith)))

-- parts of an action may be joined in any way
module _ {A B C : Type 0} (f : A → Action B) (g : B → Action C) where
  pub run_from-assoc : (x : Action A) (old : Store) (c : Claims) (new : Store)
      → run_from ((x >>= f) >>= g) old c new ≡ run_from (x >>= (λ a. f a >>= g)) old c new
  run_from-assoc (answer x) old c new = refl
  run_from-assoc (breaks b) old c new = refl
  run_from-assoc (requiring t b next) old c new = ap (unless (unmet t b)) (run_from-assoc next old c new)
  run_from-assoc (touching_word mode a next) old c new =
      ap (unless (word_break (length old) c mode a)) (run_from-assoc (next (word_at old a)) old c new)
  run_from-assoc (touching_byte mode a next) old c new =
      ap (unless (span_break (length old) c mode (byte_span a)))
      (run_from-assoc (next (unwrap_or (byte_at old a) 0)) old c new)
  run_from-assoc (touching mode span next) old c new =
      ap (unless (span_break (length old) c mode span)) (run_from-assoc next old c new)
  run_from-assoc (writing_word a v next) old c new =
      ap (unless (word_break (length old) c Writes a)) (run_from-assoc next old c (with_word new a v))
  run_from-assoc (writing_byte a v next) old c new =
      ap (unless (span_break (length old) c Writes (byte_span a)))
      (run_from-assoc next old c (with_cells new a (as_cells (v % 256 ∷ []))))
  run_from-assoc (copying from to count next) old c new =
      ap (unless (copy_break (length old) c from to count))
      (run_from-assoc next old c (with_cells new to (cells new from count)))
  run_from-assoc (descheduling w next) old c new =
      ap (unless (deschedule_break (length old) c w)) (run_from-assoc next old (saving w c) new)
  run_from-assoc (reading_saved w k next) old c new = run_from-assoc (next (saved_word_at old c w k)) old c new
  run_from-assoc (setting_saved w k v next) old c new = run_from-assoc next old c (with_saved_word new c w k v)

-- what a caller is told who adds a process
abbrev told : Result Ran Break → Result (Unit {0}) Break
told (Ok x) = Ok tt
told (Err b) = Err b

-- a process is added
pub adds : (process iptr : ℕ) (e e' : Engine) (r : Result Ran Break) → Does (adding process iptr e.state) e r e'
    → Adds (added process iptr (machine_of e)) (machine_of e) (told r) (machine_of e')
adds process iptr e e' r h =
    rw (run_from-answering {B = Control × Unit {0}} (λ (m : Control). (m, tt)) (add_process process iptr e.state)
    e.claimed.memory.bytes (claims_of e.state) e.claimed.memory.bytes)
    (by (run (add_process process iptr e.state) e.claimed.memory.bytes (claims_of e.state))
    (same (run (adding process iptr e.state) e.claimed.memory.bytes e.claimed.marks) _ one h))
  where
    one : run (adding process iptr e.state) e.claimed.memory.bytes e.claimed.marks
        ≡ answering {B = Control × Ran} (λ (m : Control). (m, ran.Instruction))
        (run (add_process process iptr e.state) e.claimed.memory.bytes (claims_of e.state))
    one =
        sym (run_from-assoc {C = Control × Ran}
        (λ _. set_saved_word (workspace_of process) iptr_word iptr >>= (λ _. enqueue process e.state))
        (λ m'. answer (m', ran.Instruction)) (admit process e.state) e.claimed.memory.bytes e.claimed.marks
        e.claimed.memory.bytes)
        ∙ run_from-answering {B = Control × Ran} (λ (m : Control). (m, ran.Instruction))
        (add_process process iptr e.state) e.claimed.memory.bytes e.claimed.marks e.claimed.memory.bytes
        ∙ ap (answering {B = Control × Ran} (λ (m : Control). (m, ran.Instruction)))
        (run_from-same (add_process process iptr e.state) e.claimed.memory.bytes e.claimed.memory.bytes e.claimed.marks
        (claims_of e.state) (same_from e.claimed.marks e.state e.agrees))

    same : (x y : Result ((Control × Ran) × Store) Break) → x ≡ y → CameOf x e.state e.claimed.memory.bytes r e'.state
        e'.claimed.memory.bytes
        → CameOf y e.state e.claimed.memory.bytes r e'.state e'.claimed.memory.bytes
    same x y q d = rw (← q) d

    by : (y : Result (Control × Store) Break)
        → CameOf (answering {B = Control × Ran} (λ (m : Control). (m, ran.Instruction)) y) e.state
        e.claimed.memory.bytes r e'.state e'.claimed.memory.bytes
        → Adds (only_machine (acted e.claimed.memory.bytes (answering {B = Control × Unit {0}} (λ (m : Control). (
          m,
          tt,
        )) y)))
        (machine_of e) (told r) (machine_of e')
    by (Ok (m1, s1)) d = rw (d.0, ← d.1, ← d.2) (refl, refl)
    by (Err b) d = rw (d.0, d.1, d.2) (refl, refl)

-- and the placement stays
pub placed_added : (process iptr : ℕ) (n n' : Machine) (r : Result (Unit {0}) Break) → process < 2 ^ 32 → IsPlaced n
    → Adds (added process iptr n) n r n' → IsPlaced n'
placed_added process iptr n n' r w p h = by (added process iptr n) refl h
  where
    by : (y : Result Machine Break) → added process iptr n ≡ y → Adds y n r n' → IsPlaced n'
    by (Ok m) e k = added_keeps_placed process iptr n n' w p (rw k.1 e)
    by (Err b) e k = subst IsPlaced (sym k.1) p

-- bytes are put into the memory
pub placed_loaded : (start : ℕ) (bytes : List ℕ) (n : Machine) (s : Store) → IsPlaced n → All (λ b. b < 256) bytes
    → is_inside (length n.store) (record { start = start; size = length bytes }) ≡ true
    → s ≡ with_cells n.store start (as_cells bytes) → IsPlaced (record { control = n.control; store = s })
placed_loaded start bytes n s p small inside e =
    subst (λ (t : Store). IsPlaced (record { control = n.control; store = t })) (sym e)
    (loaded_keeps_placed start bytes n p small inside)

-- what is fetched does not depend on the order in which the claims are kept
pub fetched_at_alike : (address : ℕ) (e : Engine)
    → value_of (run (decode e.state.kind address) e.claimed.memory.bytes e.claimed.marks)
    ≡ value_of (run (decode e.state.kind address) e.claimed.memory.bytes (claims_of e.state))
fetched_at_alike address e =
    ap (λ (r : Result (Instruction × Store) Break). value_of r)
    (run_from-same (decode e.state.kind address) e.claimed.memory.bytes e.claimed.memory.bytes e.claimed.marks
    (claims_of e.state)
    (same_from e.claimed.marks e.state e.agrees))
