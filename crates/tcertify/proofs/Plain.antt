-- Which instructions touch no memory.
use Rattle.std.proofs.Common.{◌≡◌, ℕ, refl, true}
use Rattle.tword.specs.declared.kind.Kind.{Kind}
use Rattle.tcode.specs.declared.instruction.Function.{Function}
use Rattle.tcode.specs.declared.instruction.Function.TheVariants.{J, Ldlp, Ldnl, Ldc, Ldnlp, Ldl, Adc, Call, Cj, Ajw}
use Rattle.tcode.specs.declared.instruction.Function.TheVariants.{Eqc, Stl, Stnl, Opr}
use Rattle.tcode.specs.declared.instruction.Operation.{Operation}
use Rattle.tcode.specs.declared.instruction.Operation.TheVariants.{Rev, Lb, Bsub, Endp, Diff, Add, Gcall, In, Prod}
use Rattle.tcode.specs.declared.instruction.Operation.TheVariants.{Gt, Wsub, Out, Sub, Startp, Outbyte, Outword}
use Rattle.tcode.specs.declared.instruction.Operation.TheVariants.{Seterr, Csub0, Stopp, Ladd, Norm, Ldiv, Ldpi}
use Rattle.tcode.specs.declared.instruction.Operation.TheVariants.{Xdble, Ldpri, Rem, Ret, Lend, Testerr, Testpranal}
use Rattle.tcode.specs.declared.instruction.Operation.TheVariants.{Div, Disc, Diss, Lmul, Not, Xor, Bcnt, Lshr, Lshl}
use Rattle.tcode.specs.declared.instruction.Operation.TheVariants.{Lsum, Lsub, Runp, Xword, Sb, Gajw, Wcnt, Shr, Shl}
use Rattle.tcode.specs.declared.instruction.Operation.TheVariants.{Mint, Alt, Altwt, Altend, And, Enbc, Enbs, Move}
use Rattle.tcode.specs.declared.instruction.Operation.TheVariants.{Or, Csngl, Ccnt1, Ldiff, Sum, Mul, Stoperr, Cword}
use Rattle.tcode.specs.declared.instruction.Operation.TheVariants.{Clrhalterr, Sethalterr, Testhalterr, Dup}
use Rattle.tcpu.specs.declared.registers.Registers.{Registers}
use Rattle.tcpu.specs.Functions.{function_effect}
use Rattle.tcpu.specs.Operations.{operation_effect}
use Rattle.tcpu.specs.Effects.{effect_at, local_or_left}
use Rattle.tcertify.specs.Instructions.{touches_nothing}

-- functions but those that load, store or call, and `opr`
pub functions_alone : (kind : Kind) (f : Function) (n : ℕ) (before after : Registers) → (f ≡ Ldnl → ⊥) → (f ≡ Ldl → ⊥)
    → (f ≡ Call → ⊥) → (f ≡ Stl → ⊥) → (f ≡ Stnl → ⊥) → (f ≡ Opr → ⊥)
    → touches_nothing (effect_at kind f n before after) ≡ true
unfolding function_effect
functions_alone kind J n before after g h i j k l = refl
functions_alone kind Ldlp n before after g h i j k l = refl
functions_alone kind Ldnl n before after g h i j k l = absurd (g refl)
functions_alone kind Ldc n before after g h i j k l = refl
functions_alone kind Ldnlp n before after g h i j k l = refl
functions_alone kind Ldl n before after g h i j k l = absurd (h refl)
functions_alone kind Adc n before after g h i j k l = refl
functions_alone kind Call n before after g h i j k l = absurd (i refl)
functions_alone kind Cj n before after g h i j k l = refl
functions_alone kind Ajw n before after g h i j k l = refl
functions_alone kind Eqc n before after g h i j k l = refl
functions_alone kind Stl n before after g h i j k l = absurd (j refl)
functions_alone kind Stnl n before after g h i j k l = absurd (k refl)
functions_alone kind Opr n before after g h i j k l = absurd (l refl)

-- operations but those that load, store, return, loop or move
pub operations_alone : (o : Operation) (before after : Registers) → (o ≡ Lb → ⊥) → (o ≡ Ret → ⊥) → (o ≡ Lend → ⊥)
    → (o ≡ Sb → ⊥) → (o ≡ Move → ⊥) → touches_nothing (local_or_left (operation_effect o after) o before) ≡ true
unfolding operation_effect
operations_alone Rev before after h i j k l = refl
operations_alone Lb before after h i j k l = absurd (h refl)
operations_alone Bsub before after h i j k l = refl
operations_alone Endp before after h i j k l = refl
operations_alone Diff before after h i j k l = refl
operations_alone Add before after h i j k l = refl
operations_alone Gcall before after h i j k l = refl
operations_alone In before after h i j k l = refl
operations_alone Prod before after h i j k l = refl
operations_alone Gt before after h i j k l = refl
operations_alone Wsub before after h i j k l = refl
operations_alone Out before after h i j k l = refl
operations_alone Sub before after h i j k l = refl
operations_alone Startp before after h i j k l = refl
operations_alone Outbyte before after h i j k l = refl
operations_alone Outword before after h i j k l = refl
operations_alone Seterr before after h i j k l = refl
operations_alone Csub0 before after h i j k l = refl
operations_alone Stopp before after h i j k l = refl
operations_alone Ladd before after h i j k l = refl
operations_alone Norm before after h i j k l = refl
operations_alone Ldiv before after h i j k l = refl
operations_alone Ldpi before after h i j k l = refl
operations_alone Xdble before after h i j k l = refl
operations_alone Ldpri before after h i j k l = refl
operations_alone Rem before after h i j k l = refl
operations_alone Ret before after h i j k l = absurd (i refl)
operations_alone Lend before after h i j k l = absurd (j refl)
operations_alone Testerr before after h i j k l = refl
operations_alone Testpranal before after h i j k l = refl
operations_alone Div before after h i j k l = refl
operations_alone Disc before after h i j k l = refl
operations_alone Diss before after h i j k l = refl
operations_alone Lmul before after h i j k l = refl
operations_alone Not before after h i j k l = refl
operations_alone Xor before after h i j k l = refl
operations_alone Bcnt before after h i j k l = refl
operations_alone Lshr before after h i j k l = refl
operations_alone Lshl before after h i j k l = refl
operations_alone Lsum before after h i j k l = refl
operations_alone Lsub before after h i j k l = refl
operations_alone Runp before after h i j k l = refl
operations_alone Xword before after h i j k l = refl
operations_alone Sb before after h i j k l = absurd (k refl)
operations_alone Gajw before after h i j k l = refl
operations_alone Wcnt before after h i j k l = refl
operations_alone Shr before after h i j k l = refl
operations_alone Shl before after h i j k l = refl
operations_alone Mint before after h i j k l = refl
operations_alone Alt before after h i j k l = refl
operations_alone Altwt before after h i j k l = refl
operations_alone Altend before after h i j k l = refl
operations_alone And before after h i j k l = refl
operations_alone Enbc before after h i j k l = refl
operations_alone Enbs before after h i j k l = refl
operations_alone Move before after h i j k l = absurd (l refl)
operations_alone Or before after h i j k l = refl
operations_alone Csngl before after h i j k l = refl
operations_alone Ccnt1 before after h i j k l = refl
operations_alone Ldiff before after h i j k l = refl
operations_alone Sum before after h i j k l = refl
operations_alone Mul before after h i j k l = refl
operations_alone Stoperr before after h i j k l = refl
operations_alone Cword before after h i j k l = refl
operations_alone Clrhalterr before after h i j k l = refl
operations_alone Sethalterr before after h i j k l = refl
operations_alone Testhalterr before after h i j k l = refl
operations_alone Dup before after h i j k l = refl
