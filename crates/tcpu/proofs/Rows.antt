-- Instructions by code, after which their process goes on.
use Rattle.std.proofs.Common.{◌≡◌, ℕ, ◌<◌, ◌^◌, refl, ap, Option, Some, None, Result, Bool, true, false}
use Rattle.std.proofs.Common.{pos, ◌||◌}
use Rattle.std.specs.Prelude.{is_some}
use Rattle.tword.specs.declared.breaks.Break.{Break}
use Rattle.tword.specs.declared.kind.Kind.{Kind}
use Rattle.tword.specs.Stores.{Store}
use Rattle.tword.specs.Claims.{Claims}
use Rattle.tword.specs.Actions.{run}
use Rattle.tcode.specs.declared.instruction.Function.{Function}
use Rattle.tcode.specs.declared.instruction.Function.TheVariants.{J, Ldlp, Ldnl, Ldc, Ldnlp, Ldl, Adc, Call, Cj, Ajw}
use Rattle.tcode.specs.declared.instruction.Function.TheVariants.{Eqc, Stl, Stnl, Opr}
use Rattle.tcode.specs.declared.instruction.Instruction.{Instruction}
use Rattle.tcode.specs.declared.instruction.Operation.{Operation}
use Rattle.tcode.specs.Table.{operation_at}
use Rattle.tcode.specs.Chains.{is_listed}
use Rattle.tcode.specs.Codes.{Decodes}
use Rattle.tcode.proofs.ChainWords.{reduced-word}
use Rattle.tcpu.specs.declared.registers.Registers.{Registers}
use Rattle.tcpu.specs.Outcomes.{with_error}
use Rattle.tcpu.specs.Effects.{effect, effect_at, selected_effect}
use Rattle.tcpu.specs.Stretches.{gone, gone_by}
use Rattle.tcpu.specs.Rows.{CodeGone}

-- Error stays where it is not set
pub unflagged : (r : Registers) → with_error false r ≡ r
unflagged r = ap (λ (b : Bool). record r { error = b }) (by r.error)
  where
    by : (b : Bool) → (b || false) ≡ b
    by true = refl
    by false = refl

-- what selects no operation breaks a rule
selected : (o : Option Operation) (before r r' : Registers) (s s' : Store) (c : Claims)
    → gone (run (selected_effect o before r) s c) ≡ Some (r', s') → is_some o ≡ true
selected None before r r' s s' c g = cc
selected (Some o) before r r' s s' c g = refl

-- a function that was done is listed
listed : (kind : Kind) (f : Function) (operand : ℕ) (before r r' : Registers) (s s' : Store) (c : Claims)
    → operand < 2 ^ 32 → gone (run (effect_at kind f operand before r) s c) ≡ Some (r', s')
    → is_listed kind f (pos operand) ≡ true
listed kind J operand before r r' s s' c small g = refl
listed kind Ldlp operand before r r' s s' c small g = refl
listed kind Ldnl operand before r r' s s' c small g = refl
listed kind Ldc operand before r r' s s' c small g = refl
listed kind Ldnlp operand before r r' s s' c small g = refl
listed kind Ldl operand before r r' s s' c small g = refl
listed kind Adc operand before r r' s s' c small g = refl
listed kind Call operand before r r' s s' c small g = refl
listed kind Cj operand before r r' s s' c small g = refl
listed kind Ajw operand before r r' s s' c small g = refl
listed kind Eqc operand before r r' s s' c small g = refl
listed kind Stl operand before r r' s s' c small g = refl
listed kind Stnl operand before r r' s s' c small g = refl
listed kind Opr operand before r r' s s' c small g =
    rw (reduced-word operand small) (selected (operation_at kind operand) before r r' s s' c g)

-- the instruction at Iptr, by its code, its operand and the address behind it
pub gone_at : (kind : Kind) (f : Option Function) (operand behind : ℕ) (decoded : Result Instruction Break)
    (r r' : Registers) (s s' : Store) (c : Claims) → operand < 2 ^ 32 → Decodes kind r.iptr f operand behind decoded
    → CodeGone kind f operand (record r { iptr = behind }) s c r' s'
    → gone_by kind c decoded r s ≡ Some (r', s')
unfolding effect
gone_at kind None operand behind decoded r r' s s' c small d g = absurd g
gone_at kind (Some f) operand behind decoded r r' s s' c small d g =
    let is = d (listed kind f operand r (record r { iptr = behind }) r' s s' c small (g r)) in
    rw (is.is, ← is.ends) (g r)
