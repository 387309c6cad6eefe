-- The bytes that an instruction may write. In the registers Iptr does not matter.
-- Source: own choice, what the rows of functions and operations touch.
use Rattle.std.specs.Prelude.{ℕ, Option, Some}
use Rattle.tcode.specs.declared.instruction.Function.{Function}
use Rattle.tcode.specs.declared.instruction.Function.TheVariants.{Call, Stl, Stnl, Opr}
use Rattle.tcode.specs.declared.instruction.Operation.{Operation}
use Rattle.tcode.specs.declared.instruction.Operation.TheVariants.{Lend, Sb, Move}
use Rattle.tcode.specs.Table.{operation_at}
use Rattle.tword.specs.declared.kind.Kind.{Kind}
use Rattle.tword.specs.declared.span.Span.{Span}
use Rattle.tword.specs.Touches.{byte_span, word_span}
use Rattle.tword.specs.Words.{word_below, word_from}
use Rattle.tcpu.specs.declared.registers.Registers.{Registers}

-- no bytes
abbrev pub nothing : Span
nothing = record { start = 0; size = 0 }

-- of an operation: a byte, the index and the count of a loop, or the target of a copy
unfoldable pub written_by : Option Operation → Registers → Span
written_by (Some Sb) r = byte_span r.a
written_by (Some Lend) r = record { start = r.b; size = 8 }
written_by (Some Move) r = record { start = r.b; size = r.a }
written_by _ r = nothing

-- of an instruction, for a node of a kind: a word, or the four below the workspace
unfoldable pub written : Kind → Function → (operand : ℕ) → Registers → Span
written kind Stl operand r = word_span (word_from r.wptr operand)
written kind Stnl operand r = word_span (word_from r.a operand)
written kind Call operand r = record { start = word_below r.wptr 4; size = 16 }
written kind Opr operand r = written_by (operation_at kind operand) r
written kind _ operand r = nothing
