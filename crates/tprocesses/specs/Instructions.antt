-- One instruction of a process.
-- Source: the Compiler Writer's Guide (1988) and the T414 data sheet. What is known after a jump, at which the
-- scheduler may put another process first: own choice.
use Rattle.std.specs.Prelude.{ℕ, zero, suc, Bool, true, false, not, ◌==◌, ◌||◌, ◌&&◌, [], Option, Some, None}
use Rattle.std.specs.Prelude.{unwrap_or, is_none, if◌then◌else◌}
use Rattle.tword.specs.declared.kind.Kind.{Kind}
use Rattle.tword.specs.Words.{plus}
use Rattle.tcode.specs.declared.instruction.Function.{Function}
use Rattle.tcode.specs.declared.instruction.Function.TheVariants.{Opr}
use Rattle.tcode.specs.declared.instruction.Operation.{Operation}
use Rattle.tcode.specs.declared.instruction.Operation.TheVariants.{Testerr, Clrhalterr, Sethalterr, Testhalterr}
use Rattle.tcode.specs.declared.instruction.Instruction.{Instruction}
use Rattle.tcode.specs.Table.{operation_at}
use Rattle.tcode.specs.Decoding.{decode}
use Rattle.tcpu.specs.declared.registers.Registers.{Registers}
use Rattle.tcpu.specs.declared.registers.Next.{Next}
use Rattle.tcpu.specs.declared.registers.Next.TheVariants.{Go, Jumped, Schedule, Halt}
use Rattle.tcpu.specs.Outcomes.{Outcome}
use Rattle.tcpu.specs.Effects.{effect}
use Rattle.tprocesses.specs.Places.{Place, Name, Error, HaltOnError, FlagChanged}
use Rattle.tprocesses.specs.Values.{Context, Rests, IsFlag, flag_in}
use Rattle.tprocesses.specs.Changes.{Put, Raise}
use Rattle.tprocesses.specs.Parts.{Part, gives, Doing, done, see, change, require, Halts, SawTheScheduler, WordInUse}
use Rattle.tprocesses.specs.Parts.{◌>>=◌, ◌>>◌}
use Rattle.tprocesses.specs.Touching.{Site, save, kept}
use Rattle.tprocesses.specs.Performing.{Performed, perform}
use Rattle.tprocesses.specs.Uses.{Uses, uses_of, has_needed, is_known, known_writes, known_value}
use Rattle.tprocesses.specs.Standing.{stands, goes_on, moves, forget}
use Rattle.tprocesses.specs.Scheduling.{schedules}

-- the two flags
pub record Flags : Type 0 where
  pub error : Bool
  pub halt_on_error : Bool

-- an operation that reads or changes a flag by itself
abbrev pub is_about_flags : Option Operation → Bool
is_about_flags (Some Testerr) = true
is_about_flags (Some Clrhalterr) = true
is_about_flags (Some Sethalterr) = true
is_about_flags (Some Testhalterr) = true
is_about_flags _ = false

-- the operation that an instruction is, if it is one
abbrev pub operation_by : Kind → Function → ℕ → Option Operation
operation_by kind Opr operand = operation_at kind operand
operation_by kind _ operand = None

-- the instruction reads or changes a flag by itself
abbrev pub has_flags : Kind → Instruction → Bool
has_flags kind i = is_about_flags (operation_by kind i.function i.operand)

-- the flags before an instruction. One that does not look at them is done as if HaltOnError were set and Error were
-- clear, so it ends with Halt exactly if it sets Error
abbrev pub flags_before : Site → Bool → Part Flags
flags_before s true = do
  error ← see (Error s.number)
  halting ← see (HaltOnError s.number)
  gives (record { error = flag_in error; halt_on_error = flag_in halting })
flags_before s false = gives (record { error = false; halt_on_error = true })

-- the registers before an instruction, where 0 stands for a value that is not known
abbrev pub registers : Context → Flags → Registers
registers c f =
    record {
      a = unwrap_or c.a 0;
      b = unwrap_or c.b 0;
      c = unwrap_or c.c 0;
      iptr = c.iptr;
      wptr = c.wptr;
      error = f.error;
      halt_on_error = f.halt_on_error;
    }

-- two flags are alike
abbrev pub is_same_flag : Bool → Bool → Bool
is_same_flag old new = (old && new) || not (old || new)

-- a flag is set to what an instruction left
abbrev pub sets_flag : Site → Place → (old new : Bool) → Doing
sets_flag s p old new =
    if is_same_flag old new then done
    else (do
      change p (Put (IsFlag new))
      change (FlagChanged s.number) Raise)

-- the flags after an instruction that looked at them
abbrev pub flags_after : Site → Bool → Flags → Registers → Doing
flags_after s true f r = do
  sets_flag s (Error s.number) f.error r.error
  sets_flag s (HaltOnError s.number) f.halt_on_error r.halt_on_error
flags_after s false f r = done

-- the context after an instruction. read: whether what it read is known
abbrev pub context_after : Context → Uses → Bool → Registers → Context
context_after c u read r =
    record c {
      a = known_value (is_known c read u.a) r.a;
      b = known_value (is_known c read u.b) r.b;
      c = known_value (is_known c read u.c) r.c;
      iptr = r.iptr;
      wptr = r.wptr;
    }

-- after a jump: if this process is a low one, another one may come first
abbrev pub jumped : ℕ → Site → Name → Context → Doing
jumped zero s x c = goes_on x c
jumped (suc p) s x c = do
  save s c.wptr kept
  stands x (Rests (forget c))

-- Error is set, and the processor halts if it is to
abbrev pub sets_error : Site → Name → Context → Doing
sets_error s x c = do
  halting ← see (HaltOnError s.number)
  require (not (flag_in halting)) Halts
  change (Error s.number) Raise
  change (FlagChanged s.number) Raise
  goes_on x c

-- what follows an instruction; scheduled: the context for an operation of the scheduler
abbrev pub followed : Next → Site → Name → (scheduled after : Context) → Doing
followed Go s x scheduled after = goes_on x after
followed Jumped s x scheduled after = jumped after.priority s x after
followed (Schedule o) s x scheduled after = schedules o s x scheduled
followed Halt s x scheduled after = sets_error s x after

-- the end of an instruction that was done. While an alternative is under way the workspace stays
abbrev pub completed : Site → Name → Context → Instruction → Flags → Uses → Performed Outcome → Doing
completed s x c i f u p = let r = p.value.0 in do
  require (p.known || not u.reads_known) SawTheScheduler
  flags_after s (has_flags s.kind i) f r
  require (is_none c.choice || (c.wptr == r.wptr)) WordInUse
  moves s c.wptr r.wptr
  followed p.value.1 s x (record c { iptr = plus c.iptr i.length }) (context_after c u p.known r)

-- an instruction is done
abbrev pub executed : Site → Name → Context → Instruction → Doing
executed s x c i = let u = uses_of s.kind i (unwrap_or c.a 0) in do
  require (has_needed u.needs c) SawTheScheduler
  f ← flags_before s (has_flags s.kind i)
  p ← perform s (known_writes c u) (effect s.kind i (registers c f))
  completed s x c i f u p

-- the instruction at Iptr is decoded and done; an unknown byte of code decides
abbrev pub runs : Site → Name → Context → Doing
runs s x c = do
  p ← perform s [] (decode s.kind c.iptr)
  require p.known SawTheScheduler
  executed s x c p.value
