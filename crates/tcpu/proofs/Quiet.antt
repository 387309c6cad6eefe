-- Local effects deschedule nobody: the claims stay as they are, so what follows goes on from the store that was left.
-- By this a contract that speaks of the run of an effect alone serves a step that goes on.
use Rattle.std.proofs.Common.{◌≡◌, ℕ, refl, sym, ap, subst, cond, ◌%◌, [], ◌∷◌, Bool, true, false, Option, Some, None}
use Rattle.std.proofs.Common.{Result, Ok, Err}
use Rattle.std.specs.Prelude.{IfSome, IfOk, unwrap_or}
use Rattle.tword.specs.declared.breaks.Break.{Break}
use Rattle.tword.proofs.Leads.{passed}
use Rattle.tword.specs.declared.kind.Kind.{Kind}
use Rattle.tword.specs.Words.{plus, minus}
use Rattle.tword.specs.Stores.{Store, word_at, byte_at, with_word, with_cells, as_cells, cells}
use Rattle.tword.specs.Claims.{Claims}
use Rattle.tword.specs.Actions.{Action, answer, breaks, requiring, touching_word, touching_byte, touching, writing_word}
use Rattle.tword.specs.Actions.{writing_byte, copying, descheduling, reading_saved, setting_saved, unless}
use Rattle.tword.specs.Actions.{saved_word_at, with_saved_word, run, run_from, ◌>>=◌}
use Rattle.tcode.specs.declared.instruction.Function.{Function}
use Rattle.tcode.specs.declared.instruction.Function.TheVariants as function
use Rattle.tcode.specs.declared.instruction.Operation.{Operation}
use Rattle.tcode.specs.declared.instruction.Operation.TheVariants as op
use Rattle.tcode.specs.declared.instruction.Instruction.{Instruction}
use Rattle.tcode.specs.Table.{operation_at}
use Rattle.tcpu.specs.declared.registers.Registers.{Registers}
use Rattle.tcpu.specs.declared.registers.Next.{Next}
use Rattle.tcpu.specs.declared.registers.Next.TheVariants.{Go, Jumped, Schedule, Halt}
use Rattle.tcpu.specs.Outcomes.{Outcome}
use Rattle.tcpu.specs.Functions.{function_effect}
use Rattle.tcpu.specs.Operations.{operation_effect, looped, is_positive_word}
use Rattle.tcpu.specs.Effects.{local_or_left, selected_effect, effect_at, effect}
use Rattle.tcpu.specs.Local.{outcome_of, StandsWhereLeft, StaysWhereJumped}

-- no process is descheduled, and Q holds of each answer
abbrev pub IsQuiet : {A : Type 0} → (A → Type 0) → Action A → Type 0
IsQuiet Q (answer x) = Q x
IsQuiet Q (breaks b) = Unit {0}
IsQuiet Q (requiring t b next) = IsQuiet Q next
IsQuiet Q (touching_word mode a next) = (v : ℕ) → IsQuiet Q (next v)
IsQuiet Q (touching_byte mode a next) = (v : ℕ) → IsQuiet Q (next v)
IsQuiet Q (touching mode span next) = IsQuiet Q next
IsQuiet Q (writing_word a v next) = IsQuiet Q next
IsQuiet Q (writing_byte a v next) = IsQuiet Q next
IsQuiet Q (copying from to count next) = IsQuiet Q next
IsQuiet Q (descheduling w next) = ⊥
IsQuiet Q (reading_saved w k next) = (v : ℕ) → IsQuiet Q (next v)
IsQuiet Q (setting_saved w k v next) = IsQuiet Q next

-- what follows an answer and its store, or the break
abbrev pub then_from : {A B : Type 0} → Result (A × Store) Break → (A → Store → Result B Break) → Result B Break
then_from (Ok (a, s)) k = k a s
then_from (Err b) k = Err b

unless_then : {A B : Type 0} (o : Option Break) (r : Result B Break) (r' : Result (A × Store) Break) (k : A → Store
    → Result B Break)
    → r ≡ then_from r' k → unless o r ≡ then_from (unless o r') k
unless_then None r r' k e = e
unless_then (Some b) r r' k e = refl

-- an action that is quiet, and then another
pub quiet_bind : {A B : Type 0} (Q : A → Type 0) (x : Action A) (f : A → Action B) (old new : Store) (c : Claims)
    → IsQuiet Q x
    → run_from (x >>= f) old c new ≡ then_from (run_from x old c new) (λ a s. run_from (f a) old c s)
quiet_bind Q (answer x) f old new c q = refl
quiet_bind Q (breaks b) f old new c q = refl
quiet_bind Q (requiring t b next) f old new c q = unless_then _ _ _ _ (quiet_bind Q next f old new c q)
quiet_bind Q (touching_word mode a next) f old new c q = unless_then _ _ _ _ (quiet_bind Q (next _) f old new c (q _))
quiet_bind Q (touching_byte mode a next) f old new c q = unless_then _ _ _ _ (quiet_bind Q (next _) f old new c (q _))
quiet_bind Q (touching mode span next) f old new c q = unless_then _ _ _ _ (quiet_bind Q next f old new c q)
quiet_bind Q (writing_word a v next) f old new c q = unless_then _ _ _ _ (quiet_bind Q next f old _ c q)
quiet_bind Q (writing_byte a v next) f old new c q = unless_then _ _ _ _ (quiet_bind Q next f old _ c q)
quiet_bind Q (copying from to count next) f old new c q = unless_then _ _ _ _ (quiet_bind Q next f old _ c q)
quiet_bind Q (descheduling w next) f old new c q = absurd q
quiet_bind Q (reading_saved w k next) f old new c q = quiet_bind Q (next _) f old new c (q _)
quiet_bind Q (setting_saved w k v next) f old new c q = quiet_bind Q next f old _ c q

-- what holds of its answer
pub quiet_run : {A : Type 0} (Q : A → Type 0) (x : Action A) (old new : Store) (c : Claims) (a : A) (s : Store)
    → IsQuiet Q x → run_from x old c new ≡ Ok (a, s) → Q a
quiet_run {A} Q (answer x) old new c a s q e =
    let k : ◌≡◌ {A = A × Store} (x, new) (a, s) = cc in
    subst Q (ap (λ (p : A × Store). p.0) k) q
quiet_run Q (breaks b) old new c a s q e = cc
quiet_run Q (requiring t b next) old new c a s q e = quiet_run Q next old new c a s q (passed _ _ _ e).1
quiet_run Q (touching_word mode b next) old new c a s q e =
    quiet_run Q (next (word_at old b)) old new c a s (q (word_at old b)) (passed _ _ _ e).1
quiet_run Q (touching_byte mode b next) old new c a s q e =
    quiet_run Q (next (unwrap_or (byte_at old b) 0)) old new c a s (q (unwrap_or (byte_at old b) 0)) (passed _ _ _ e).1
quiet_run Q (touching mode span next) old new c a s q e = quiet_run Q next old new c a s q (passed _ _ _ e).1
quiet_run Q (writing_word b v next) old new c a s q e =
    quiet_run Q next old (with_word new b v) c a s q (passed _ _ _ e).1
quiet_run Q (writing_byte b v next) old new c a s q e =
    quiet_run Q next old (with_cells new b (as_cells (v % 256 ∷ []))) c a s q (passed _ _ _ e).1
quiet_run Q (copying from to count next) old new c a s q e =
    quiet_run Q next old (with_cells new to (cells new from count)) c a s q (passed _ _ _ e).1
quiet_run Q (descheduling w next) old new c a s q e = absurd q
quiet_run Q (reading_saved w k next) old new c a s q e =
    quiet_run Q (next (saved_word_at old c w k)) old new c a s (q (saved_word_at old c w k)) e
quiet_run Q (setting_saved w k v next) old new c a s q e = quiet_run Q next old (with_saved_word new c w k v) c a s q e

-- nothing is left to the scheduler, and a jump stays in the workspace
abbrev EndsAs : Next → Registers → Registers → Type 0
EndsAs Jumped r r' = r'.wptr ≡ r.wptr
EndsAs (Schedule o) r r' = ⊥
EndsAs _ r r' = Unit {0}

-- the same for an outcome of an instruction that began with these registers
abbrev IsEnd : Registers → Outcome → Type 0
IsEnd r o = EndsAs o.1 r o.0

halts_or_goes : (b : Bool) (r r' : Registers) → EndsAs (cond b Halt Go) r r'
halts_or_goes true r r' = tt
halts_or_goes false r r' = tt

-- a function
functions-quiet : (f : Function) (n : ℕ) (b r : Registers) → b.wptr ≡ r.wptr → IsQuiet (IsEnd b) (function_effect f n r)
unfolding function_effect
functions-quiet function.J n b r w = sym w
functions-quiet _ n b r w = search halts_or_goes

looped-quiet : (left index : ℕ) (t : Bool) (b r : Registers) → b.wptr ≡ r.wptr
    → IsQuiet (IsEnd b) (looped left index t r)
looped-quiet left index true b r w = sym w
looped-quiet left index false b r w = tt

-- a local operation
operations-quiet : (o : Operation) (b r : Registers) → b.wptr ≡ r.wptr
    → IfSome (operation_effect o r) (λ x. IsQuiet (IsEnd b) x)
unfolding operation_effect
operations-quiet op.Lend b r w =
    λ count index. looped-quiet (minus count 1) index (is_positive_word (minus count 1)) b r w
operations-quiet _ b r w = search halts_or_goes

-- an effect may also be left to the scheduler
abbrev IsStay : Registers → Outcome → Type 0
IsStay r o = StaysWhereJumped o.1 r o.0

ends_stays : (next : Next) (r r' : Registers) → EndsAs next r r' → StaysWhereJumped next r r'
ends_stays Jumped r r' h = h
ends_stays _ r r' h = tt

quiet_stays : (r : Registers) (x : Action Outcome) → IsQuiet (IsEnd r) x → IsQuiet (IsStay r) x
quiet_stays r (answer o) q = ends_stays o.1 r o.0 q
quiet_stays r (breaks b) q = tt
quiet_stays r (requiring t b next) q = quiet_stays r next q
quiet_stays r (touching_word mode a next) q = λ v. quiet_stays r (next v) (q v)
quiet_stays r (touching_byte mode a next) q = λ v. quiet_stays r (next v) (q v)
quiet_stays r (touching mode span next) q = quiet_stays r next q
quiet_stays r (writing_word a v next) q = quiet_stays r next q
quiet_stays r (writing_byte a v next) q = quiet_stays r next q
quiet_stays r (copying from to count next) q = quiet_stays r next q
quiet_stays r (descheduling w next) q = q
quiet_stays r (reading_saved w k next) q = λ v. quiet_stays r (next v) (q v)
quiet_stays r (setting_saved w k v next) q = quiet_stays r next q

local-quiet : (x : Option (Action Outcome)) (o : Operation) (b : Registers) → IfSome x (λ x. IsQuiet (IsEnd b) x)
    → IsQuiet (IsStay b) (local_or_left x o b)
local-quiet (Some x) o b q = quiet_stays b x q
local-quiet None o b q = tt

selected-quiet : (o : Option Operation) (b r : Registers) → b.wptr ≡ r.wptr → IsQuiet (IsStay b) (selected_effect o b r)
selected-quiet None b r w = tt
selected-quiet (Some o) b r w = local-quiet (operation_effect o r) o b (operations-quiet o b r w)

effect_at-quiet : (kind : Kind) (f : Function) (n : ℕ) (b r : Registers) → b.wptr ≡ r.wptr
    → IsQuiet (IsStay b) (effect_at kind f n b r)
effect_at-quiet kind function.Opr n b r w = selected-quiet (operation_at kind n) b r w
effect_at-quiet kind f n b r w = quiet_stays b (function_effect f n r) (functions-quiet f n b r w)

-- the effect of an instruction
effect-quiet : (kind : Kind) (i : Instruction) (r : Registers) → IsQuiet (IsStay r) (effect kind i r)
unfolding effect
effect-quiet kind i r = effect_at-quiet kind i.function i.operand r (record r { iptr = plus r.iptr i.length }) refl

-- what follows an effect goes on from the claims as they are and from the store that the effect left
pub effect_then : {B : Type 0} (kind : Kind) (i : Instruction) (r : Registers) (f : Outcome → Action B) (s : Store)
    (c : Claims)
    → run_from (effect kind i r >>= f) s c s ≡ then_from (run (effect kind i r) s c) (λ o s'. run_from (f o) s c s')
effect_then kind i r f s c = quiet_bind (IsStay r) (effect kind i r) f s s c (effect-quiet kind i r)

-- so what was answered goes on as what follows says
pub effect_answered : {B : Type 0} (kind : Kind) (i : Instruction) (r r' : Registers) (next : Next)
    (f : Outcome → Action B)
    (s s' : Store) (c : Claims)
    → run (effect kind i r) s c ≡ Ok ((r', next), s') → run_from (effect kind i r >>= f) s c s
    ≡ run_from (f (r', next)) s c s'
effect_answered kind i r r' next f s s' c e = rw (effect_then kind i r f s c, e) refl

-- and a break is one whatever follows
pub effect_broke : {B : Type 0} (kind : Kind) (i : Instruction) (r : Registers) (b : Break) (f : Outcome → Action B)
    (s : Store)
    (c : Claims)
    → run (effect kind i r) s c ≡ Err b → run_from (effect kind i r >>= f) s c s ≡ Err b
effect_broke kind i r b f s c e = rw (effect_then kind i r f s c, e) refl

-- a jump stays in its workspace
pub stays_effect : (kind : Kind) (i : Instruction) (r r' : Registers) (c : Claims) (s s' : Store)
    (result : Result Next Break)
    → run (effect kind i r) s c ≡ outcome_of result r' s' → IfOk result (λ next. StaysWhereJumped next r r')
stays_effect kind i r r' c s s' (Ok next) e = quiet_run (IsStay r) (effect kind i r) s s c (r', next) s'
    (effect-quiet kind i r) e
stays_effect kind i r r' c s s' (Err b) e = tt

-- what is left to the scheduler has changed nothing
local-left : (x : Option (Action Outcome)) (o p : Operation) (b r' : Registers) (c : Claims) (s s' : Store)
    → IfSome x (λ x. IsQuiet (IsEnd b) x)
    → run (local_or_left x o b) s c ≡ Ok ((r', Schedule p), s') → (s' ≡ s) × (r' ≡ b)
local-left (Some x) o p b r' c s s' q e = absurd (quiet_run (IsEnd b) x s s c (r', Schedule p) s' q e)
local-left None o p b r' c s s' q e =
    let same : ◌≡◌ {A = Outcome × Store} ((b, Schedule o), s) ((r', Schedule p), s') = cc in
    (sym (ap (λ (x : Outcome × Store). x.1) same), sym (ap (λ (x : Outcome × Store). x.0.0) same))

selected-left : (o : Option Operation) (p : Operation) (b r r' : Registers) (c : Claims) (s s' : Store)
    → b.wptr ≡ r.wptr
    → run (selected_effect o b r) s c ≡ Ok ((r', Schedule p), s') → (s' ≡ s) × (r' ≡ b)
selected-left None p b r r' c s s' w e = cc
selected-left (Some o) p b r r' c s s' w e =
    local-left (operation_effect o r) o p b r' c s s' (operations-quiet o b r w) e

effect_at-left : (kind : Kind) (f : Function) (n : ℕ) (p : Operation) (b r r' : Registers) (c : Claims) (s s' : Store)
    → b.wptr ≡ r.wptr
    → run (effect_at kind f n b r) s c ≡ Ok ((r', Schedule p), s') → (s' ≡ s) × (r' ≡ b)
effect_at-left kind function.Opr n p b r r' c s s' w e = selected-left (operation_at kind n) p b r r' c s s' w e
effect_at-left kind f n p b r r' c s s' w e =
    absurd (quiet_run (IsEnd b) (function_effect f n r) s s c (r', Schedule p) s' (functions-quiet f n b r w) e)

pub stands_at : (kind : Kind) (f : Function) (n : ℕ) (b r r' : Registers) (c : Claims) (s s' : Store) (next : Next)
    → b.wptr ≡ r.wptr
    → run (effect_at kind f n b r) s c ≡ Ok ((r', next), s') → StandsWhereLeft next s b s' r'
stands_at kind f n b r r' c s s' (Schedule p) w e = effect_at-left kind f n p b r r' c s s' w e
stands_at kind f n b r r' c s s' _ w e = tt
