-- Instructions in a row, after each of which their process goes on.
-- Source: own choice, the result of several instructions.
use Rattle.std.specs.Prelude.{Bool, true, false, ℕ, zero, suc, Option, Some, None, Result, Ok, Err}
use Rattle.tword.specs.declared.breaks.Break.{Break}
use Rattle.tword.specs.declared.kind.Kind.{Kind}
use Rattle.tword.specs.Stores.{Store}
use Rattle.tword.specs.Claims.{Claims}
use Rattle.tword.specs.Actions.{run, value_of}
use Rattle.tcode.specs.declared.instruction.Instruction.{Instruction}
use Rattle.tcode.specs.Decoding.{decode}
use Rattle.tcpu.specs.declared.registers.Registers.{Registers}
use Rattle.tcpu.specs.declared.registers.Next.{Next}
use Rattle.tcpu.specs.declared.registers.Next.TheVariants.{Go, Jumped}
use Rattle.tcpu.specs.Outcomes.{Outcome}
use Rattle.tcpu.specs.Effects.{effect}

-- registers behind which the process goes on: none where it needs the scheduler or halts the processor
abbrev pub going : Next → Registers → Option Registers
going Go r = Some r
going Jumped r = Some r
going _ r = None

-- registers, if there are some, with a store
abbrev pub with_store : Option Registers → Store → Option (Registers × Store)
with_store (Some r) s = Some (r, s)
with_store None s = None

-- registers and store behind an instruction after which the process goes on: none where it does not, or a rule is
-- broken
abbrev pub gone : Result (Outcome × Store) Break → Option (Registers × Store)
gone (Ok ((r, next), s)) = with_store (going next r) s
gone (Err b) = None

-- the same for an instruction that was fetched, if one was
abbrev pub gone_by : Kind → Claims → Result Instruction Break → Registers → Store → Option (Registers × Store)
gone_by kind claims (Ok i) r s = gone (run (effect kind i r) s claims)
gone_by kind claims (Err b) r s = None

-- the same for the instruction at Iptr
abbrev pub gone_one : Kind → Claims → Option (Registers × Store) → Option (Registers × Store)
gone_one kind claims (Some (r, s)) = gone_by kind claims (value_of (run (decode kind r.iptr) s claims)) r s
gone_one kind claims None = None

-- the same for a given number of instructions in a row
unfoldable pub gone_on : ℕ → Kind → Claims → Registers → Store → Option (Registers × Store)
gone_on zero kind claims r s = Some (r, s)
gone_on (suc k) kind claims r s = gone_one kind claims (gone_on k kind claims r s)

-- whether an instruction was done, and its process goes on
abbrev pub goes : Result Next Break → Bool
goes (Ok Go) = true
goes (Ok Jumped) = true
goes _ = false
