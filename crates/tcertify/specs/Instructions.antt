-- What a call that does an instruction answered, as what an action answers.
-- Source: own choice.
use Rattle.std.specs.Prelude.{ℕ, Bool, true, false, [], Option, Some, None, Result, Ok, Err}
use Rattle.tword.specs.declared.breaks.Break.{Break}
use Rattle.tword.specs.declared.breaks.Break.TheVariants.{NoSuchOperation, LongPrefix}
use Rattle.tcode.specs.declared.instruction.Instruction.{Instruction}
use Rattle.tcode.specs.declared.instruction.DecodeFault.{DecodeFault}
use Rattle.tcode.specs.declared.instruction.DecodeFault.TheVariants as fault
use Rattle.tcode.specs.Decoding.{decode}
use Rattle.tword.specs.Actions.{Action, answer, breaks, requiring, touching_byte}
use Rattle.tcpu.specs.declared.registers.Registers.{Registers}
use Rattle.tcpu.specs.Outcomes.{Outcome}
use Rattle.tprocesses.specs.Parts.{Part, gives, require, SawTheScheduler, ◌>>=◌, ◌>>◌}
use Rattle.tprocesses.specs.Touching.{Site, touch, part_of}
use Rattle.tword.specs.Touches.{Mode, byte_span}
use Rattle.tword.specs.Stores.{Store}
use Rattle.tprocesses.specs.Performing.{Performed, perform}
use Rattle.tcertify.specs.declared.performing.Done.{Done}

-- what an instruction did, with the registers that it left
abbrev pub outcome : Registers → Done → Performed Outcome
outcome r d = record { value = (r, d.next); known = d.known }

-- the byte at an address is touched
abbrev pub touch_byte : Site → Mode → ℕ → Part Store
touch_byte s mode address = touch s mode (byte_span address) >>= (λ words. gives (part_of (byte_span address) words))

-- the instruction at an address, all of whose bytes have to be known
abbrev pub decoded : Site → ℕ → Part Instruction
decoded s iptr = do
  p ← perform s [] (decode s.kind iptr)
  require p.known SawTheScheduler
  gives p.value

-- what an action does behind its first byte
abbrev pub behind_byte : {A : Type 0} → ℕ → Action A → Action A
behind_byte b (touching_byte mode a next) = next b
behind_byte b x = x

-- the instruction at an address of which this byte was read first
abbrev pub decoded_behind : Site → ℕ → ℕ → Part Instruction
decoded_behind s iptr first = do
  p ← perform s [] (behind_byte first (decode s.kind iptr))
  require p.known SawTheScheduler
  gives p.value

-- what bytes decode to: an instruction, none where they end within it, or a break
abbrev pub chain_of : Result Instruction DecodeFault → Result (Option Instruction) Break
chain_of (Ok i) = Ok (Some i)
chain_of (Err fault.Ended) = Ok None
chain_of (Err fault.NoSuchOperation) = Err NoSuchOperation
chain_of (Err fault.LongPrefix) = Err LongPrefix

-- an action that touches no memory
abbrev pub touches_nothing : {A : Type 0} → Action A → Bool
touches_nothing (answer x) = true
touches_nothing (breaks b) = true
touches_nothing (requiring t b next) = touches_nothing next
touches_nothing _ = false
