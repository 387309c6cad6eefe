-- Decoding and local effects deschedule nobody: the claims stay as they are, so what follows goes on from the store
-- that was left. By this a contract that speaks of the run of a part alone serves a step that goes on.
use Rattle.std.proofs.Common.{◌≡◌, ◌∙◌, ℕ, ℤ, zero, suc, pos, refl, ap, cond, Bool, true, false, Option, Some, None}
use Rattle.std.proofs.Common.{Result, Ok}
use Rattle.std.proofs.Common.{Err}
use Rattle.tword.specs.declared.kind.Kind.{Kind}
use Rattle.tword.specs.declared.breaks.Break.{Break}
use Rattle.tword.specs.declared.breaks.Break.TheVariants.{NoSuchOperation}
use Rattle.tword.specs.Words.{plus}
use Rattle.tword.specs.Stores.{Store}
use Rattle.tword.specs.Claims.{Claims}
use Rattle.tword.specs.Actions.{Action, answer, breaks, requiring, touching_word, touching_byte, touching, writing_word}
use Rattle.tword.specs.Actions.{writing_byte, copying, descheduling, reading_saved, setting_saved, unless, run}
use Rattle.tword.specs.Actions.{run_from, ◌>>=◌, value_of}
use Rattle.tcode.specs.declared.instruction.Instruction.{Instruction}
use Rattle.tcode.specs.declared.instruction.Function.TheVariants.{J}
use Rattle.tcode.specs.declared.instruction.Operation.{Operation}
use Rattle.tcode.specs.Chains.{Chained, More, Last, chained, is_listed, instruction, longest}
use Rattle.tcode.specs.Decoding.{complete, fetch, decode}
use Rattle.tcpu.specs.declared.registers.Registers.{Registers}
use Rattle.tcpu.specs.declared.registers.Next.{Next}
use Rattle.tcpu.specs.declared.registers.Next.TheVariants.{Jumped, Schedule}
use Rattle.tcpu.specs.Outcomes.{Outcome}
use Rattle.tcpu.specs.Effects.{effect}
use Rattle.tcpu.specs.Functions.{function_effect}
use Rattle.tcpu.specs.Local.{outcome_of, would_jump, StandsWhereLeft}
use Rattle.tcpu.proofs.Quiet.{effect_answered, effect_broke, stays_effect}
use Rattle.tproc.specs.declared.claimed_memory.ClaimedMemory.{ClaimedMemory}
use Rattle.tproc.specs.Channels.{StepAction}
use Rattle.tproc.specs.declared.engine.Engine.{Engine}
use Rattle.tproc.specs.declared.ran.Ran.{Ran}
use Rattle.tproc.specs.Machine.{Control}
use Rattle.tproc.specs.Scheduler.{counted_by, operation_step}
use Rattle.tproc.specs.Steps.{after, instruction_step}
use Rattle.tproc.specs.Doing.{Begins, CameOf, Does, Foresees, jumps_as, moved_on, onward, with_registers}

-- what an instruction did tells how a step begins
pub begins_effect : (kind : Kind) (i : Instruction) (r r' : Registers) (c : Claims) (s s' : Store)
    (result : Result Next Break)
    → run (effect kind i r) s c ≡ outcome_of result r' s' → (f : Outcome → StepAction)
    → run_from (effect kind i r >>= f) s c s ≡ onward (with_registers result r') (λ a. run_from (f a) s c s')
begins_effect kind i r r' c s s' (Ok next) e = λ f. effect_answered kind i r r' next f s s' c e
begins_effect kind i r r' c s s' (Err b) e = λ f. effect_broke kind i r b f s c e

-- what an instruction would do tells how a step would begin
pub foresees : (kind : Kind) (i : Instruction) (r : Registers) (m : ClaimedMemory) (result : Result Bool Break)
    → result ≡ would_jump (run (effect kind i r) m.memory.bytes m.marks) → Foresees (effect kind i r) m r result
foresees kind i r m result e = by (run (effect kind i r) m.memory.bytes m.marks) refl e
  where
    by : (y : Result (Outcome × Store) Break) → run (effect kind i r) m.memory.bytes m.marks ≡ y → result ≡ would_jump y
        → Foresees (effect kind i r) m r result
    by (Err b) k h = rw h (λ f. effect_broke kind i r b f m.memory.bytes m.marks k)
    by (Ok ((r', Jumped), s')) k h =
        rw h (
          r',
          s',
          stays_effect kind i r r' m.marks m.memory.bytes s' (Ok Jumped) k,
          (λ f. effect_answered kind i r r' Jumped f m.memory.bytes s' m.marks k),
        )
    by (Ok ((r', _), s')) k h = rw h tt

-- no store is written
abbrev IsReading : {A : Type 0} → Action A → Type 0
IsReading (answer x) = Unit {0}
IsReading (breaks b) = Unit {0}
IsReading (requiring t b next) = IsReading next
IsReading (touching_word mode a next) = (v : ℕ) → IsReading (next v)
IsReading (touching_byte mode a next) = (v : ℕ) → IsReading (next v)
IsReading (touching mode span next) = IsReading next
IsReading _ = ⊥

unless_onward : {A B : Type 0} (o : Option Break) (r : Result B Break) (r' : Result (A × Store) Break) (k : A
    → Result B Break)
    → r ≡ onward (value_of r') k → unless o r ≡ onward (value_of (unless o r')) k
unless_onward None r r' k e = e
unless_onward (Some b) r r' k e = refl

reading_bind : {A B : Type 0} (x : Action A) (f : A → Action B) (old new : Store) (c : Claims) → IsReading x
    → run_from (x >>= f) old c new ≡ onward (value_of (run_from x old c new)) (λ a. run_from (f a) old c new)
reading_bind (answer x) f old new c q = refl
reading_bind (breaks b) f old new c q = refl
reading_bind (requiring t b next) f old new c q = unless_onward _ _ _ _ (reading_bind next f old new c q)
reading_bind (touching_word mode a next) f old new c q = unless_onward _ _ _ _ (reading_bind (next _) f old new c (q _))
reading_bind (touching_byte mode a next) f old new c q = unless_onward _ _ _ _ (reading_bind (next _) f old new c (q _))
reading_bind (touching mode span next) f old new c q = unless_onward _ _ _ _ (reading_bind next f old new c q)
reading_bind (writing_word a v next) f old new c q = absurd q
reading_bind (writing_byte a v next) f old new c q = absurd q
reading_bind (copying from to count next) f old new c q = absurd q
reading_bind (descheduling w next) f old new c q = absurd q
reading_bind (reading_saved w k next) f old new c q = absurd q
reading_bind (setting_saved w k v next) f old new c q = absurd q

-- the bytes of an instruction
complete-reading : (kind : Kind) (rest : ℤ → Action Instruction) (length : ℕ) (p : Chained)
    → ((w : ℤ) → IsReading (rest w))
    → IsReading (complete kind rest length p)
complete-reading kind rest length (More w) h = h w
complete-reading kind rest length (Last f w) h = by (is_listed kind f w)
  where
    by : (b : Bool) → IsReading (cond b (answer (instruction f w length)) (breaks NoSuchOperation))
    by true = tt
    by false = tt

fetch-reading : (kind : Kind) (left had address : ℕ) (value : ℤ) → IsReading (fetch kind left had address value)
fetch-reading kind zero had address value = tt
fetch-reading kind (suc left) had address value =
    λ byte. complete-reading kind (fetch kind left (suc had) (plus address 1)) (suc had) (chained value byte)
    (λ w. fetch-reading kind left (suc had) (plus address 1) w)

-- what was decoded tells how a step begins
pub begins_decode : (kind : Kind) (iptr : ℕ) (c : Claims) (s : Store) (result : Result Instruction Break)
    → result ≡ value_of (run (decode kind iptr) s c) → (f : Instruction → StepAction)
    → run_from (decode kind iptr >>= f) s c s ≡ onward result (λ a. run_from (f a) s c s)
unfolding decode
begins_decode kind iptr c s result e =
    λ f. rw e (reading_bind (fetch kind longest 0 iptr (pos 0)) f s s c (fetch-reading kind longest 0 iptr (pos 0)))

-- whether it jumped
pub told_effect : (kind : Kind) (i : Instruction) (r r' : Registers) (c : Claims) (s s' : Store)
    (result : Result Next Break)
    → run (effect kind i r) s c ≡ outcome_of result r' s' → would_jump (run (effect kind i r) s c) ≡ jumps_as result
told_effect kind i r r' c s s' (Ok next) e = rw e refl
told_effect kind i r r' c s s' (Err b) e = rw e refl

-- a jump jumps, wherever it leads
pub jump_jumps : (kind : Kind) (i : Instruction) (r : Registers) (c : Claims) (s : Store) → i.function ≡ J
    → Ok true ≡ would_jump (run (effect kind i r) s c)
unfolding effect function_effect
jump_jumps kind i r c s e = rw e refl

-- an operation is done whose instruction has left memory and registers as they were
pub scheduled_does : (p : ℕ) (i : Instruction) (o : Operation) (old new : Engine) (m : Control) (claimed :
    ClaimedMemory)
    (fetched : Result Instruction Break) (performed : Result Next Break) (next : Next) (r : Result Ran Break)
    → fetched ≡ Ok i → Begins (decode old.claimed.memory.kind old.state.registers.iptr) old.claimed fetched old.claimed
    → performed ≡ Ok next → next ≡ Schedule o
    → Begins (effect old.claimed.memory.kind i old.state.registers) old.claimed (with_registers performed m.registers)
    claimed
    → StandsWhereLeft next old.claimed.memory.bytes old.state.registers claimed.memory.bytes m.registers
    → m ≡ record old.state { registers = m.registers } → claimed.marks ≡ old.claimed.marks
    → CameOf (run (operation_step o p (counted_by o p (moved_on i.length m))) claimed.memory.bytes claimed.marks) m
    claimed.memory.bytes r new.state new.claimed.memory.bytes → Does (instruction_step p old.state) old r new
unfolding instruction_step
scheduled_does p i o old new m claimed fetched performed next r f b g s e left rest claims h =
    let stands : StandsWhereLeft (Schedule o) old.claimed.memory.bytes old.state.registers claimed.memory.bytes
    m.registers =
    rw s at left in
    let same : m ≡ old.state = rest ∙ ap (λ (x : Registers). record old.state { registers = x }) stands.1 in
    let fetch = rw (old.kind, f) at b in
    let effected = rw (old.kind, g, s) at e in
    rw (
      fetch (λ i. effect old.state.kind i old.state.registers >>= (λ q. after i.length p old.state q.0 q.1)),
      effected (λ q. after i.length p old.state q.0 q.1),
      stands.1,
      stands.0,
    )
    (rw (same, stands.0, claims) at h)

-- an instruction broke a rule, and has left memory and state as they were
pub broken_does : (p : ℕ) (i : Instruction) (b : Break) (old : Engine) (m : Control) (claimed : ClaimedMemory)
    (fetched : Result Instruction Break) (performed : Result Next Break) (r : Result Ran Break)
    → fetched ≡ Ok i → Begins (decode old.claimed.memory.kind old.state.registers.iptr) old.claimed fetched old.claimed
    → performed ≡ Err b
    → Begins (effect old.claimed.memory.kind i old.state.registers) old.claimed (with_registers performed m.registers)
    claimed
    → r ≡ Err b → m ≡ old.state → claimed.memory.bytes ≡ old.claimed.memory.bytes
    → CameOf (run (instruction_step p old.state) old.claimed.memory.bytes old.claimed.marks) old.state
    old.claimed.memory.bytes r m claimed.memory.bytes
unfolding instruction_step
broken_does p i b old m claimed fetched performed r f begins g e same state cells =
    let fetch = rw (old.kind, f) at begins in
    let effected = rw (old.kind, g) at e in
    rw (
      fetch (λ i. effect old.state.kind i old.state.registers >>= (λ q. after i.length p old.state q.0 q.1)),
      effected (λ q. after i.length p old.state q.0 q.1),
    )
    (same, state, cells)
