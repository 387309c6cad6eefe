-- What an instruction does depends on the registers and on what it reads as it is told.
use Rattle.std.proofs.Common.{◌≡◌, ℕ, refl, sym, Bool, true, false, true≢false, Option, Some, None, []}
use Rattle.std.specs.Prelude.{◌==◌, if◌then◌else◌}
use Rattle.tword.specs.declared.kind.Kind.{Kind}
use Rattle.tword.specs.Words.{plus, minus}
use Rattle.tcode.specs.declared.instruction.Function.{Function}
use Rattle.tcode.specs.declared.instruction.Function.TheVariants.{J, Ldlp, Ldnl, Ldc, Ldnlp, Ldl, Adc, Call, Cj}
use Rattle.tcode.specs.declared.instruction.Function.TheVariants.{Ajw, Eqc, Stl, Stnl, Opr}
use Rattle.tcode.specs.declared.instruction.Operation.{Operation}
use Rattle.tcode.specs.declared.instruction.Operation.TheVariants.{Lb, Ret, Lend, Sb, Gajw, Move}
use Rattle.tcode.specs.Table.{operation_at}
use Rattle.tcpu.specs.declared.registers.Registers.{Registers}
use Rattle.tcpu.specs.Functions.{function_effect}
use Rattle.tcpu.specs.Operations.{operation_effect, looped, is_positive_word}
use Rattle.tcpu.specs.Effects.{effect, effect_at, selected_effect}
use Rattle.tprocesses.specs.Uses.{NeedsA, FromA, FromB, FromC, Uses, uses, drops_one, operation_uses, selected_uses}
use Rattle.tprocesses.specs.Uses.{function_uses}
use Rattle.tprocesses.specs.Depending.{with_others, DoAlike, UsesAreTold}

-- registers behind an instruction of this length
abbrev behind : ℕ → Registers → Registers
behind length r = record r { iptr = plus r.iptr length }

-- a loop goes round again or not
looped_alike : (length left index z : ℕ) (r : Registers) (t : Bool)
    → DoAlike (operation_uses Lend) [] true r (record r { c = z }) (looped left index t (behind length r))
    (looped left index t (behind length (record r { c = z })))
looped_alike length left index z r true = (refl, refl, (refl, refl, (refl, refl, refl, refl, refl)))
looped_alike length left index z r false = (refl, refl, (refl, refl, refl, refl, refl))

-- an operation
operation_alike : (o : Operation) (length : ℕ) (r : Registers) (x y z : ℕ) (same : Bool)
    → ((operation_uses o).reads_known ≡ true → same ≡ true)
    → DoAlike (operation_uses o) (operation_uses o).written same r (with_others (operation_uses o).needs x y z r)
    (selected_effect (Some o) r (behind length r))
    (selected_effect (Some o) (with_others (operation_uses o).needs x y z r)
    (behind length (with_others (operation_uses o).needs x y z r)))
unfolding operation_effect
operation_alike Lb length r x y z true h = (refl, refl, λ v. (refl, refl, refl, refl, refl))
operation_alike Lb length r x y z false h = (refl, refl, λ v w. (refl, tt, refl, refl, refl))
operation_alike Ret length r x y z true h = (refl, refl, λ v. (refl, refl, refl, refl, refl))
operation_alike Ret length r x y z false h = absurd (true≢false (sym (h refl)))
operation_alike Lend length r x y z true h = (
  refl,
  refl,
  λ count. (
    refl,
    refl,
    λ index. looped_alike length (minus count 1) index z r (is_positive_word (minus count 1)),
  ),
)
operation_alike Lend length r x y z false h = absurd (true≢false (sym (h refl)))
operation_alike Sb length r x y z same h = (refl, refl, (refl, refl, refl, refl, refl))
operation_alike Gajw length r x y z same h = (refl, refl, (refl, refl, refl, refl, refl))
operation_alike Move length r x y z same h = (refl, refl, refl, (refl, refl, refl, refl, refl))
operation_alike _ length r x y z same h = (refl, refl, refl, refl, refl)

-- the operation that an operand selects, if there is one
selected_alike : (o : Option Operation) (length : ℕ) (r : Registers) (x y z : ℕ) (same : Bool)
    → ((selected_uses o).reads_known ≡ true → same ≡ true)
    → DoAlike (selected_uses o) (selected_uses o).written same r (with_others (selected_uses o).needs x y z r)
    (selected_effect o r (behind length r))
    (selected_effect o (with_others (selected_uses o).needs x y z r)
    (behind length (with_others (selected_uses o).needs x y z r)))
selected_alike None length r x y z same h = refl
selected_alike (Some o) length r x y z same h = operation_alike o length r x y z same h

-- `cj`, by whether A is 0
abbrev jump_uses : Bool → Uses
jump_uses t = if t then uses NeedsA FromA FromB FromC else drops_one NeedsA

jumps_alike : (t : Bool) (n length x y z : ℕ) (r : Registers) (same : Bool) → (r.a == 0) ≡ t
    → DoAlike (jump_uses t) (jump_uses t).written same r (with_others (jump_uses t).needs x y z r)
    (function_effect Cj n (behind length r))
    (function_effect Cj n (behind length (with_others (jump_uses t).needs x y z r)))
unfolding function_effect
jumps_alike true n length x y z r same e = rw e (refl, refl, refl, refl, refl)
jumps_alike false n length x y z r same e = rw e (refl, refl, refl, refl, refl)

-- a function
function_alike : (kind : Kind) (f : Function) (n length : ℕ) (r : Registers) (x y z : ℕ) (same : Bool)
    → ((function_uses kind f n r.a).reads_known ≡ true → same ≡ true)
    → DoAlike (function_uses kind f n r.a) (function_uses kind f n r.a).written same r
    (with_others (function_uses kind f n r.a).needs x y z r) (effect_at kind f n r (behind length r))
    (effect_at kind f n (with_others (function_uses kind f n r.a).needs x y z r)
    (behind length (with_others (function_uses kind f n r.a).needs x y z r)))
unfolding function_effect
function_alike kind J n length r x y z same h = (refl, refl, refl, refl, refl)
function_alike kind Ldlp n length r x y z same h = (refl, refl, refl, refl, refl)
function_alike kind Ldnl n length r x y z true h = (refl, refl, λ v. (refl, refl, refl, refl, refl))
function_alike kind Ldnl n length r x y z false h = (refl, refl, λ v w. (refl, tt, refl, refl, refl))
function_alike kind Ldc n length r x y z same h = (refl, refl, refl, refl, refl)
function_alike kind Ldnlp n length r x y z same h = (refl, refl, refl, refl, refl)
function_alike kind Ldl n length r x y z true h = (refl, refl, λ v. (refl, refl, refl, refl, refl))
function_alike kind Ldl n length r x y z false h = (refl, refl, λ v w. (refl, tt, refl, refl, refl))
function_alike kind Adc n length r x y z same h = (refl, refl, refl, refl, refl)
function_alike kind Call n length r x y z same h =
    (refl, refl, (refl, refl, (refl, refl, (refl, refl, (refl, refl, refl, refl, refl)))))
function_alike kind Cj n length r x y z same h = jumps_alike (r.a == 0) n length x y z r same refl
function_alike kind Ajw n length r x y z same h = (refl, refl, refl, refl, refl)
function_alike kind Eqc n length r x y z same h = (refl, refl, refl, refl, refl)
function_alike kind Stl n length r x y z same h = (refl, refl, (refl, refl, refl, refl, refl))
function_alike kind Stnl n length r x y z same h = (refl, refl, (refl, refl, refl, refl, refl))
function_alike kind Opr n length r x y z same h = selected_alike (operation_at kind n) length r x y z same h

pub uses_are_told : UsesAreTold
unfolding effect
uses_are_told kind i r x y z same h = function_alike kind i.function i.operand i.length r x y z same h
