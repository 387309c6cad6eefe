-- An instruction as the code of its function, its operand and the address behind it.
-- Source: own choice, what those who do many instructions in a row keep of each.
use Rattle.std.specs.Prelude.{ℕ, ◌≡◌, true, pos, Option, Some, None, Result, Ok}
use Rattle.tword.specs.declared.breaks.Break.{Break}
use Rattle.tword.specs.declared.kind.Kind.{Kind}
use Rattle.tword.specs.Words.{plus}
use Rattle.tcode.specs.declared.instruction.Function.{Function}
use Rattle.tcode.specs.declared.instruction.Instruction.{Instruction}
use Rattle.tcode.specs.Chains.{is_listed}

-- what was decoded at an address is an instruction of this function with this operand, up to the address behind
pub record IsDecoded (iptr : ℕ) (f : Function) (operand behind : ℕ) (decoded : Result Instruction Break) : Type 0 where
  pub size : ℕ
  pub is : decoded ≡ Ok (record { function = f; operand = operand; length = size })
  pub ends : behind ≡ plus iptr size

-- the same holds where the kind lists it, for the function of a code, if the code has one
abbrev pub Decodes : Kind → ℕ → Option Function → (operand behind : ℕ) → Result Instruction Break → Type 0
Decodes kind iptr (Some f) operand behind decoded =
    is_listed kind f (pos operand) ≡ true → IsDecoded iptr f operand behind decoded
Decodes kind iptr None operand behind decoded = Unit {0}
