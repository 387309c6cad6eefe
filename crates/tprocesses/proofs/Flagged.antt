-- An instruction that is not about flags need not look at them to tell what it does.
use Rattle.std.proofs.Common.{◌≡◌, ℕ, refl, Bool, true, false, true≢false, Option, Some, None}
use Rattle.std.specs.Prelude.{◌==◌, ◌||◌, not, nat_le, nat_lt, int_lt, int_le, int_div, int_rem, ℤ, pos, ◌+ℤ◌, ◌-ℤ◌}
use Rattle.std.specs.Prelude.{◌*ℤ◌, ◌/◌, ◌%◌, neg_ℤ, if◌then◌else◌}
use Rattle.tword.specs.declared.kind.Kind.{Kind}
use Rattle.tword.specs.Words.{plus, minus, signed, reduced, overflows}
use Rattle.tcode.specs.declared.instruction.Function.{Function}
use Rattle.tcode.specs.declared.instruction.Function.TheVariants.{Ldnl, Ldl, Adc, Call, Cj, Stl, Stnl, Opr}
use Rattle.tcode.specs.declared.instruction.Operation.{Operation}
use Rattle.tcode.specs.declared.instruction.Operation.TheVariants.{Lb, Add, Sub, Seterr, Csub0, Ladd, Ldiv, Rem}
use Rattle.tcode.specs.declared.instruction.Operation.TheVariants.{Ret, Lend, Testerr, Div, Lsub, Sb, Gajw, Move}
use Rattle.tcode.specs.declared.instruction.Operation.TheVariants.{Csngl, Ccnt1, Mul, Cword, Clrhalterr, Sethalterr}
use Rattle.tcode.specs.declared.instruction.Operation.TheVariants.{Testhalterr}
use Rattle.tcode.specs.Table.{operation_at}
use Rattle.tcpu.specs.declared.registers.Registers.{Registers}
use Rattle.tcpu.specs.Outcomes.{pop, one_to, all_to, all_to_pair, checked}
use Rattle.tcpu.specs.Functions.{function_effect}
use Rattle.tcpu.specs.Operations.{operation_effect, looped, is_positive_word, carry_of, double, sign_word}
use Rattle.tcpu.specs.Effects.{effect, effect_at, selected_effect}
use Rattle.tprocesses.specs.Instructions.{is_about_flags, operation_by}
use Rattle.tprocesses.specs.Depending.{with_flags, DoesByFlags, FlagsAreTold}

-- registers behind an instruction of this length
abbrev behind : ℕ → Registers → Registers
behind length r = record r { iptr = plus r.iptr length }

checked_by : (t e h : Bool) (r : Registers)
    → DoesByFlags e h (checked t (with_flags false true r)) (checked t (with_flags e h r))
checked_by true true h r = (refl, refl)
checked_by true false h r = (refl, refl)
checked_by false true h r = (refl, refl)
checked_by false false h r = (refl, refl)

-- a whole number that may overflow
signed_by : (z : ℤ) (e h : Bool) (r : Registers)
    → DoesByFlags e h (checked (overflows z) (with_flags false true (all_to (reduced z) r)))
    (checked (overflows z) (with_flags e h (all_to (reduced z) r)))
signed_by z e h r = checked_by (overflows z) e h (all_to (reduced z) r)

looped_by : (length left index : ℕ) (e h : Bool) (r : Registers) (t : Bool)
    → DoesByFlags e h (looped left index t (behind length (with_flags false true r)))
    (looped left index t (behind length (with_flags e h r)))
looped_by length left index e h r true = (refl, refl, (refl, refl, (refl, refl)))
looped_by length left index e h r false = (refl, refl, (refl, refl))

-- an operation
operation_flags : (o : Operation) (length : ℕ) (r : Registers) (e h : Bool) → is_about_flags (Some o) ≡ false
    → DoesByFlags e h
    (selected_effect (Some o) (with_flags false true r) (behind length (with_flags false true r)))
    (selected_effect (Some o) (with_flags e h r) (behind length (with_flags e h r)))
unfolding operation_effect
operation_flags Testerr length r e h k = absurd (true≢false k)
operation_flags Clrhalterr length r e h k = absurd (true≢false k)
operation_flags Sethalterr length r e h k = absurd (true≢false k)
operation_flags Testhalterr length r e h k = absurd (true≢false k)
operation_flags Add length r e h k = signed_by (signed r.b +ℤ signed r.a) e h (behind length r)
operation_flags Sub length r e h k = signed_by (signed r.b -ℤ signed r.a) e h (behind length r)
operation_flags Ladd length r e h k =
    signed_by (signed r.b +ℤ signed r.a +ℤ pos (carry_of r.c)) e h (behind length r)
operation_flags Lsub length r e h k =
    signed_by (signed r.b -ℤ signed r.a -ℤ pos (carry_of r.c)) e h (behind length r)
operation_flags Mul length r e h k = signed_by (signed r.b *ℤ signed r.a) e h (behind length r)
operation_flags Seterr length r e h k = checked_by true e h (behind length r)
operation_flags Csub0 length r e h k = checked_by (nat_le r.a r.b) e h (pop (behind length r))
operation_flags Ccnt1 length r e h k = checked_by (r.b == 0 || nat_lt r.a r.b) e h (pop (behind length r))
operation_flags Cword length r e h k =
    checked_by (int_le (signed r.a) (signed r.b) || int_lt (signed r.b) (neg_ℤ (signed r.a))) e h
    (pop (behind length r))
operation_flags Csngl length r e h k =
    checked_by (not (r.b == sign_word r.a)) e h (all_to r.a (behind length r))
operation_flags Ldiv length r e h k = let small = nat_lt r.c r.a in
    checked_by (not small) e h
    (all_to_pair (if small then double r.c r.b / r.a else 0) (if small then double r.c r.b % r.a else 0)
    (behind length r))
operation_flags Rem length r e h k = let by_zero = r.a == 0 in
    checked_by by_zero e h
    (all_to (if by_zero then 0 else reduced (int_rem (signed r.b) (signed r.a))) (behind length r))
operation_flags Div length r e h k =
    let by_zero = r.a == 0 in let quotient = int_div (signed r.b) (signed r.a) in
    checked_by (by_zero || overflows quotient) e h
    (all_to (if by_zero then 0 else reduced quotient) (behind length r))
operation_flags Lb length r e h k = (refl, refl, λ v. (refl, refl))
operation_flags Ret length r e h k = (refl, refl, λ v. (refl, refl))
operation_flags Lend length r e h k = (
  refl,
  refl,
  λ count. (
    refl,
    refl,
    λ index. looped_by length (minus count 1) index e h r (is_positive_word (minus count 1)),
  ),
)
operation_flags Sb length r e h k = (refl, refl, (refl, refl))
operation_flags Gajw length r e h k = (refl, refl, (refl, refl))
operation_flags Move length r e h k = (refl, refl, refl, (refl, refl))
operation_flags _ length r e h k = (refl, refl)

-- the operation that an operand selects, if there is one
selected_flags : (o : Option Operation) (length : ℕ) (r : Registers) (e h : Bool) → is_about_flags o ≡ false
    → DoesByFlags e h (selected_effect o (with_flags false true r) (behind length (with_flags false true r)))
    (selected_effect o (with_flags e h r) (behind length (with_flags e h r)))
selected_flags None length r e h k = refl
selected_flags (Some o) length r e h k = operation_flags o length r e h k

-- `cj`, by whether A is 0
jump_flags : (t : Bool) (n length : ℕ) (r : Registers) (e h : Bool) → (r.a == 0) ≡ t
    → DoesByFlags e h (function_effect Cj n (behind length (with_flags false true r)))
    (function_effect Cj n (behind length (with_flags e h r)))
unfolding function_effect
jump_flags true n length r e h k = rw k (refl, refl)
jump_flags false n length r e h k = rw k (refl, refl)

-- a function
function_flags : (kind : Kind) (f : Function) (n length : ℕ) (r : Registers) (e h : Bool)
    → is_about_flags (operation_by kind f n) ≡ false
    → DoesByFlags e h (effect_at kind f n (with_flags false true r) (behind length (with_flags false true r)))
    (effect_at kind f n (with_flags e h r) (behind length (with_flags e h r)))
unfolding function_effect
function_flags kind Ldnl n length r e h k = (refl, refl, λ v. (refl, refl))
function_flags kind Ldl n length r e h k = (refl, refl, λ v. (refl, refl))
function_flags kind Adc n length r e h k =
    checked_by (overflows (signed r.a +ℤ signed n)) e h
    (one_to (reduced (signed r.a +ℤ signed n)) (behind length r))
function_flags kind Call n length r e h k = (refl, refl, (refl, refl, (refl, refl, (refl, refl, (refl, refl)))))
function_flags kind Cj n length r e h k = jump_flags (r.a == 0) n length r e h refl
function_flags kind Stl n length r e h k = (refl, refl, (refl, refl))
function_flags kind Stnl n length r e h k = (refl, refl, (refl, refl))
function_flags kind Opr n length r e h k = selected_flags (operation_at kind n) length r e h k
function_flags kind _ n length r e h k = (refl, refl)

pub flags_are_told : FlagsAreTold
unfolding effect
flags_are_told kind i r e h k = function_flags kind i.function i.operand i.length r e h k
