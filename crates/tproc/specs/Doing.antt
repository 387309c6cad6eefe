-- What a part of the code does, said of the action whose part it is.
-- Source: own choice, words for contracts.
use Rattle.std.specs.Prelude.{◌≡◌, ℕ, Bool, true, false, length, Option, Some, None, Result, Ok, Err}
use Rattle.tword.specs.declared.breaks.Break.{Break}
use Rattle.tword.specs.Words.{plus}
use Rattle.tword.specs.Stores.{Store, with_word}
use Rattle.tword.specs.Actions.{Action, Deed, answer, set_saved_word, run, run_from, ◌>>=◌}
use Rattle.tcode.specs.declared.instruction.Instruction.{Instruction}
use Rattle.tcpu.specs.declared.registers.Registers.{Registers}
use Rattle.tcpu.specs.declared.registers.Next.{Next}
use Rattle.tcpu.specs.declared.registers.Next.TheVariants.{Jumped}
use Rattle.tcpu.specs.Outcomes.{Outcome}
use Rattle.tcpu.specs.Local.{is_jump}
use Rattle.tcpu.specs.Effects.{effect}
use Rattle.tproc.specs.declared.claimed_memory.ClaimedMemory.{ClaimedMemory}
use Rattle.tproc.specs.declared.engine.Engine.{Engine}
use Rattle.tproc.specs.declared.ran.Ran.{Ran}
use Rattle.tproc.specs.declared.ran.Ran.TheVariants as ran
use Rattle.tproc.specs.Machine.{Control, Machine, workspace_of}
use Rattle.tproc.specs.Queues.{iptr_word, admit, enqueue}
use Rattle.tproc.specs.Channels.{StepAction}
use Rattle.tproc.specs.Steps.{after, step, step_left_by, step_answered}

-- the machine of an engine
abbrev pub machine_of : Engine → Machine
machine_of engine = record { control = engine.state; store = engine.claimed.memory.bytes }

-- the result of an action: control and store are what it gives; or its break is named, and both are as they were
abbrev pub CameOf : {A : Type 0} → Result ((Control × A) × Store) Break → Control → Store → Result A Break → Control
    → Store → Type 0
CameOf (Ok ((m, x), s)) old cells result new cells' = (result ≡ Ok x) × (new ≡ m) × (cells' ≡ s)
CameOf (Err b) old cells result new cells' = (result ≡ Err b) × (new ≡ old) × (cells' ≡ cells)

-- an action is done by an engine
abbrev pub Does : {A : Type 0} → Action (Control × A) → Engine → Result A Break → Engine → Type 0
Does x old result new =
    CameOf (run x old.claimed.memory.bytes old.claimed.marks) old.state old.claimed.memory.bytes result new.state
    new.claimed.memory.bytes

-- an action is done that goes on from this store
abbrev pub DoesFrom : {A : Type 0} → Store → Action (Control × A) → Engine → Result A Break → Engine → Type 0
DoesFrom from x old result new =
    CameOf (run_from x old.claimed.memory.bytes old.claimed.marks from) old.state old.claimed.memory.bytes result
    new.state
    new.claimed.memory.bytes

-- the store where a row has first stored a word at the workspace, if it does so
abbrev pub laid : Option ℕ → ℕ → Store → Store
laid None workspace cells = cells
laid (Some word) workspace cells = with_word cells workspace word

-- an action is done where the row first stores a word at the workspace, if it does so
abbrev pub DoesLaid : {A : Type 0} → Option ℕ → Action (Control × A) → Engine → Result A Break → Engine → Type 0
DoesLaid first x old result new =
    CameOf
    (run_from x old.claimed.memory.bytes old.claimed.marks (laid first old.state.registers.wptr
    old.claimed.memory.bytes)) old.state
    old.claimed.memory.bytes result new.state new.claimed.memory.bytes

-- an action that changes only the control, as a step
abbrev pub as_step : Action Control → StepAction
as_step x = x >>= (λ m. answer (m, ran.Instruction))

-- two deeds in turn, and then the rest of a step
abbrev pub in_turn : Deed → Deed → StepAction → StepAction
in_turn x y z = x >>= (λ _. y >>= (λ _. z))

-- a process from outside is let in, as a step
abbrev pub adding : ℕ → ℕ → Control → StepAction
adding process iptr m =
    admit process m >>=
    (λ _. set_saved_word (workspace_of process) iptr_word iptr >>=
    (λ _. enqueue process m >>= (λ m'. answer (m', ran.Instruction))))

-- what follows a part of an action: the rest from where the part ended, or the part's break
abbrev pub onward : {A B : Type 0} → Result A Break → (A → Result B Break) → Result B Break
onward (Ok x) rest = rest x
onward (Err b) rest = Err b

-- the part of an action is done where the row has first stored a word. from: the store with that word
abbrev pub DoesActionFrom : {A : Type 0} → Action A → ClaimedMemory → Store → Result A Break → ClaimedMemory → Type 0
DoesActionFrom {A} x old from result new =
    (f : A → StepAction) (store : Store) → length store ≡ length old.memory.bytes
    → run_from (x >>= f) store old.marks from ≡ onward result (λ a. run_from (f a) store new.marks new.memory.bytes)

-- the part of an action is done: the rest of any step goes on from the memory that it left; or its break is named
abbrev pub DoesAction : {A : Type 0} → Action A → ClaimedMemory → Result A Break → ClaimedMemory → Type 0
DoesAction {A} x old result new =
    (f : A → StepAction) (store : Store) → length store ≡ length old.memory.bytes
    → run_from (x >>= f) store old.marks old.memory.bytes ≡ onward result (λ a. run_from (f a) store new.marks
    new.memory.bytes)

-- the part of an action breaks a rule, whatever the step has changed so far and whatever follows
abbrev pub Refuses : {A : Type 0} → Action A → ClaimedMemory → Break → Type 0
Refuses {A} x claimed b =
    (f : A → StepAction) (old new : Store) → length old ≡ length claimed.memory.bytes
    → run_from (x >>= f) old claimed.marks new ≡ Err b

-- a part of an action that comes right after another breaks a rule, whatever the step has changed so far and whatever
-- follows
abbrev pub RefusesAfter : {A B : Type 0} → Action A → Action B → ClaimedMemory → Break → Type 0
RefusesAfter {A} {B} x y claimed b =
    (f : B → StepAction) (old new : Store) → length old ≡ length claimed.memory.bytes
    → run_from (x >>= (λ _. y >>= f)) old claimed.marks new ≡ Err b

-- the first part of a step is done, which may read the store: the rest goes on from the same claims and the store that
-- it left; or its break is named
abbrev pub Begins : {A : Type 0} → Action A → ClaimedMemory → Result A Break → ClaimedMemory → Type 0
Begins {A} x old result new =
    (f : A → StepAction) → run_from (x >>= f) old.memory.bytes old.marks old.memory.bytes
    ≡ onward result (λ a. run_from (f a) old.memory.bytes old.marks new.memory.bytes)

-- the last part of a step is done, whatever the step has changed so far
abbrev pub Follows : StepAction → Engine → Engine → Type 0
Follows x old new =
    (store : Store) → length store ≡ length old.claimed.memory.bytes
    → run_from x store old.claimed.marks old.claimed.memory.bytes
    ≡ Ok ((new.state, ran.Instruction), new.claimed.memory.bytes)

-- what a call answered, with the registers that it left
abbrev pub with_registers : Result Next Break → Registers → Result Outcome Break
with_registers (Ok next) r = Ok (r, next)
with_registers (Err b) r = Err b

-- an instruction that would jump reaches the jump with the claims as they are, in its own workspace; one that would
-- break a rule breaks it whatever follows
abbrev pub Foresees : Action Outcome → ClaimedMemory → Registers → Result Bool Break → Type 0
Foresees x claimed r (Err b) =
    (f : Outcome → StepAction) → run_from (x >>= f) claimed.memory.bytes claimed.marks claimed.memory.bytes ≡ Err b
Foresees x claimed r (Ok false) = Unit {0}
Foresees x claimed r (Ok true) =
    (r' : Registers) × (s : Store) × (r'.wptr ≡ r.wptr)
    × ((f : Outcome → StepAction) → run_from (x >>= f) claimed.memory.bytes claimed.marks claimed.memory.bytes
    ≡ run_from (f (r', Jumped)) claimed.memory.bytes claimed.marks s)

-- what a call answered, with the control that it left
abbrev pub with_control : Result (Unit {0}) Break → Control → Result Control Break
with_control (Ok u) m = Ok m
with_control (Err b) m = Err b

-- the effect of an instruction of the current process, and what follows it
abbrev pub rest_of : Instruction → ℕ → Control → StepAction
rest_of i p m = effect m.kind i m.registers >>= (λ o. after i.length p m o.0 o.1)

-- the current process has moved on by an instruction of this length
abbrev pub moved_on : ℕ → Control → Control
moved_on length m = record m { registers = record m.registers { iptr = plus m.registers.iptr length } }

-- whether the instruction of an answer jumped
abbrev pub jumps_as : Result Next Break → Result Bool Break
jumps_as (Ok next) = Ok (is_jump next)
jumps_as (Err b) = Err b

-- a step of the machine: the state that it leaves and what it answers
pub record Stepped (old : Machine) (result : Result Ran Break) (new : Machine) : Type 0 where
  pub left : new ≡ step_left_by old (step old)
  pub answered : result ≡ step_answered (step old)
