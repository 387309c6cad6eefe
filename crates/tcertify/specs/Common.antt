-- The commonest instructions of a process.
-- Source: own choice, parts of the steps of `tprocesses`.
use Rattle.std.specs.Prelude.{ℕ, ◌≡◌, true, false, Some, unwrap_or}
use Rattle.tword.specs.declared.kind.Kind.{Kind}
use Rattle.tcode.specs.declared.instruction.Instruction.{Instruction}
use Rattle.tcode.specs.declared.instruction.Operation.{Operation}
use Rattle.tcpu.specs.declared.registers.Registers.{Registers}
use Rattle.tcpu.specs.Effects.{effect}
use Rattle.tcpu.specs.Operations.{operation_effect}
use Rattle.tcpu.specs.Outcomes.{all_to, goes}
use Rattle.tprocesses.specs.Instructions as instructions
use Rattle.tprocesses.specs.Instructions.{Flags, context_after, has_flags, is_about_flags}
use Rattle.tprocesses.specs.Uses.{Uses, has_needed, operation_uses, replaces_two, uses_of}
use Rattle.tprocesses.specs.Values.{Context}

-- the flags before an instruction that does not look at them
abbrev pub unseen : Flags
unseen = record { error = false; halt_on_error = true }

-- what an instruction uses in a context
abbrev pub used : Kind → Context → Instruction → Uses
used kind c i = uses_of kind i (unwrap_or c.a 0)

-- an instruction that touches no memory and no flag, at the same workspace, is followed by the next one with this
-- context
pub record LeavesAlone (kind : Kind) (c : Context) (i : Instruction) (after : Context) : Type 0 where
  pub registers : Registers
  pub enough : has_needed (used kind c i).needs c ≡ true
  pub plain : has_flags kind i ≡ false
  pub effect : effect kind i (instructions.registers c unseen) ≡ goes registers
  pub workspace : registers.wptr ≡ c.wptr
  pub left : context_after c (used kind c i) true registers ≡ after

-- an operation that leaves one value in the place of B and A
pub record MakesOne (o : Operation) (b a value : ℕ) : Type 0 where
  pub effect : (r : Registers) → r.b ≡ b → r.a ≡ a → operation_effect o r ≡ Some (goes (all_to value r))
  pub uses : operation_uses o ≡ replaces_two
  pub plain : is_about_flags (Some o) ≡ false
