-- Decoding and local effects deschedule nobody and set no saved word.
use Rattle.std.proofs.Common.{ℕ, ℤ, zero, suc, pos, Bool, true, false, Option, Some, None}
use Rattle.std.specs.Prelude.{IfSome, if◌then◌else◌}
use Rattle.tword.specs.declared.kind.Kind.{Kind}
use Rattle.tword.specs.Words.{plus, minus}
use Rattle.tword.specs.declared.breaks.Break.TheVariants.{NoSuchOperation}
use Rattle.tword.specs.Actions.{Action, answer, breaks}
use Rattle.tcode.specs.declared.instruction.Function.{Function}
use Rattle.tcode.specs.declared.instruction.Function.TheVariants as function
use Rattle.tcode.specs.declared.instruction.Operation.{Operation}
use Rattle.tcode.specs.declared.instruction.Operation.TheVariants as op
use Rattle.tcode.specs.declared.instruction.Instruction.{Instruction as Decoded}
use Rattle.tcode.specs.Chains.{Chained, More, Last, chained, is_listed, instruction, longest}
use Rattle.tcode.specs.Table.{operation_at}
use Rattle.tcode.specs.Decoding.{complete, fetch, decode}
use Rattle.tcpu.specs.declared.registers.Registers.{Registers}
use Rattle.tcpu.specs.Outcomes.{Outcome}
use Rattle.tcpu.specs.Functions.{function_effect}
use Rattle.tcpu.specs.Operations.{operation_effect, looped, is_positive_word}
use Rattle.tcpu.specs.Effects.{local_or_left, selected_effect, effect_at, effect}
use Rattle.tproc.proofs.SavedSets.{SetsNone}

-- the bytes of an instruction
complete-none : (kind : Kind) (rest : ℤ → Action Decoded) (length : ℕ) (p : Chained) → ((w : ℤ) → SetsNone (rest w))
    → SetsNone (complete kind rest length p)
complete-none kind rest length (More w) h = h w
complete-none kind rest length (Last f w) h = by (is_listed kind f w)
  where
    by : (b : Bool) → SetsNone (if b then answer (instruction f w length) else breaks NoSuchOperation)
    by true = tt
    by false = tt

fetch-none : (kind : Kind) (left had address : ℕ) (value : ℤ) → SetsNone (fetch kind left had address value)
fetch-none kind zero had address value = tt
fetch-none kind (suc left) had address value =
    λ byte. complete-none kind (fetch kind left (suc had) (plus address 1)) (suc had) (chained value byte)
    (λ w. fetch-none kind left (suc had) (plus address 1) w)

pub decode-none : (kind : Kind) (iptr : ℕ) → SetsNone (decode kind iptr)
unfolding decode
decode-none kind iptr = fetch-none kind longest 0 iptr (pos 0)

-- a function
functions-none : (f : Function) (n : ℕ) (r : Registers) → SetsNone (function_effect f n r)
unfolding function_effect
functions-none function.Ldnl n r = λ _. tt
functions-none function.Ldl n r = λ _. tt
functions-none _ n r = tt

looped-none : (left index : ℕ) (t : Bool) (r : Registers) → SetsNone (looped left index t r)
looped-none left index true r = tt
looped-none left index false r = tt

-- a local operation
operations-none : (o : Operation) (r : Registers) → IfSome (operation_effect o r) (λ x. SetsNone x)
unfolding operation_effect
operations-none op.Lb r = λ _. tt
operations-none op.Ret r = λ _. tt
operations-none op.Lend r = λ count index. looped-none (minus count 1) index (is_positive_word (minus count 1)) r
operations-none _ r = tt

local-none : (x : Option (Action Outcome)) (o : Operation) (b : Registers) → IfSome x (λ x. SetsNone x)
    → SetsNone (local_or_left x o b)
local-none (Some x) o b h = h
local-none None o b h = tt

selected-none : (o : Option Operation) (b r : Registers) → SetsNone (selected_effect o b r)
selected-none None b r = tt
selected-none (Some o) b r = local-none (operation_effect o r) o b (operations-none o r)

effect_at-none : (kind : Kind) (f : Function) (n : ℕ) (b r : Registers) → SetsNone (effect_at kind f n b r)
effect_at-none kind function.Opr n b r = selected-none (operation_at kind n) b r
effect_at-none kind f n b r = functions-none f n r

-- the effect of an instruction
pub effect-none : (kind : Kind) (i : Decoded) (r : Registers) → SetsNone (effect kind i r)
unfolding effect
effect-none kind i r = effect_at-none kind i.function i.operand r (record r { iptr = plus r.iptr i.length })
