-- No instruction reads a word after it has written one, and those that are about flags end at once.
use Rattle.std.proofs.Common.{◌≡◌, ℕ, refl, Bool, true, false, true≢false, sym, Option, Some, None}
use Rattle.std.specs.Prelude.{IfSome}
use Rattle.tword.specs.declared.kind.Kind.{Kind}
use Rattle.tword.specs.Words.{plus, minus}
use Rattle.tword.specs.Actions.{Action, answer}
use Rattle.tcode.specs.declared.instruction.Function.{Function}
use Rattle.tcode.specs.declared.instruction.Function.TheVariants.{Ldnl, Ldl, Opr}
use Rattle.tcode.specs.declared.instruction.Operation.{Operation}
use Rattle.tcode.specs.declared.instruction.Operation.TheVariants.{Lb, Ret, Lend, Testerr, Clrhalterr, Sethalterr}
use Rattle.tcode.specs.declared.instruction.Operation.TheVariants.{Testhalterr}
use Rattle.tcode.specs.declared.instruction.Instruction.{Instruction}
use Rattle.tcode.specs.Table.{operation_at}
use Rattle.tcpu.specs.declared.registers.Registers.{Registers}
use Rattle.tcpu.specs.declared.registers.Next.TheVariants.{Go}
use Rattle.tcpu.specs.Outcomes.{Outcome}
use Rattle.tcpu.specs.Functions.{function_effect}
use Rattle.tcpu.specs.Operations.{operation_effect, looped, is_positive_word}
use Rattle.tcpu.specs.Effects.{effect, effect_at, local_or_left, selected_effect}
use Rattle.tprocesses.specs.Instructions.{has_flags, is_about_flags, operation_by}
use Rattle.tseen.proofs.Performed.{ReadsFirst}

functions-ordered : (f : Function) (n : ℕ) (r : Registers) → ReadsFirst false (function_effect f n r)
unfolding function_effect
functions-ordered Ldnl n r = (refl, λ v. tt)
functions-ordered Ldl n r = (refl, λ v. tt)
functions-ordered _ n r = tt

looped-ordered : (left index : ℕ) (t : Bool) (r : Registers) → ReadsFirst false (looped left index t r)
looped-ordered left index true r = tt
looped-ordered left index false r = tt

operations-ordered : (o : Operation) (r : Registers) → IfSome (operation_effect o r) (λ x. ReadsFirst false x)
unfolding operation_effect
operations-ordered Lb r = (refl, λ v. tt)
operations-ordered Ret r = (refl, λ v. tt)
operations-ordered Lend r = (
  refl,
  λ count. (refl, λ index. looped-ordered (minus count 1) index (is_positive_word (minus count 1)) r),
)
operations-ordered _ r = tt

local-ordered : (x : Option (Action Outcome)) (o : Operation) (b : Registers) → IfSome x (λ x. ReadsFirst false x)
    → ReadsFirst false (local_or_left x o b)
local-ordered (Some x) o b q = q
local-ordered None o b q = tt

selected-ordered : (o : Option Operation) (b r : Registers) → ReadsFirst false (selected_effect o b r)
selected-ordered None b r = tt
selected-ordered (Some o) b r = local-ordered (operation_effect o r) o b (operations-ordered o r)

effect_at-ordered : (kind : Kind) (f : Function) (n : ℕ) (b r : Registers)
    → ReadsFirst false (effect_at kind f n b r)
effect_at-ordered kind Opr n b r = selected-ordered (operation_at kind n) b r
effect_at-ordered kind f n b r = functions-ordered f n r

-- an instruction reads first
pub reads_first : (kind : Kind) (i : Instruction) (r : Registers) → ReadsFirst false (effect kind i r)
unfolding effect
reads_first kind i r =
    effect_at-ordered kind i.function i.operand r (record r { iptr = plus r.iptr i.length })

-- an action answers at once, and the next instruction follows
abbrev pub GoesAtOnce : Action Outcome → Type 0
GoesAtOnce x = (r : Registers) × (x ≡ answer (r, Go))

operation_goes : (o : Operation) (b r : Registers) → is_about_flags (Some o) ≡ true
    → GoesAtOnce (selected_effect (Some o) b r)
unfolding operation_effect
operation_goes Testerr b r h = (_, refl)
operation_goes Clrhalterr b r h = (_, refl)
operation_goes Sethalterr b r h = (_, refl)
operation_goes Testhalterr b r h = (_, refl)
operation_goes _ b r h = absurd (true≢false (sym h))

selected_goes : (o : Option Operation) (b r : Registers) → is_about_flags o ≡ true → GoesAtOnce (selected_effect o b r)
selected_goes None b r h = absurd (true≢false (sym h))
selected_goes (Some o) b r h = operation_goes o b r h

function_goes : (kind : Kind) (f : Function) (n : ℕ) (b r : Registers) → is_about_flags (operation_by kind f n) ≡ true
    → GoesAtOnce (effect_at kind f n b r)
function_goes kind Opr n b r h = selected_goes (operation_at kind n) b r h
function_goes kind _ n b r h = absurd (true≢false (sym h))

-- so an instruction about flags does
pub flags_go : (kind : Kind) (i : Instruction) (r : Registers) → has_flags kind i ≡ true
    → GoesAtOnce (effect kind i r)
unfolding effect
flags_go kind i r h =
    function_goes kind i.function i.operand r (record r { iptr = plus r.iptr i.length }) h
