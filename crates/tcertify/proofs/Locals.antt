-- A local instruction by its function, or by the operation that it selects.
use Rattle.std.proofs.Common.{◌≡◌, refl, sym, subst, true, Bool, List, Option, Some, None, Result}
use Rattle.std.specs.Prelude.{unwrap_or}
use Rattle.tword.specs.declared.kind.Kind.{Kind}
use Rattle.tword.specs.Words.{plus}
use Rattle.tword.specs.Actions.{Action}
use Rattle.tcode.specs.declared.instruction.Function.{Function}
use Rattle.tcode.specs.declared.instruction.Function.TheVariants.{Ldnl, Ldl, Call, Stl, Stnl, Opr}
use Rattle.tcode.specs.declared.instruction.Operation.{Operation}
use Rattle.tcode.specs.declared.instruction.Operation.TheVariants.{Lb, Ret, Lend, Sb, Move}
use Rattle.tcode.specs.declared.instruction.Instruction.{Instruction}
use Rattle.tcode.specs.Table.{operation_at}
use Rattle.tcpu.specs.declared.registers.Registers.{Registers}
use Rattle.tcpu.specs.Outcomes.{Outcome}
use Rattle.tcpu.specs.Operations.{operation_effect}
use Rattle.tcpu.specs.Effects.{effect, effect_at, local_or_left, selected_effect}
use Rattle.tprocesses.specs.Values.{Context}
use Rattle.tprocesses.specs.Parts.{Reason, Part}
use Rattle.tprocesses.specs.Touching.{Site}
use Rattle.tprocesses.specs.Performing.{Performed, perform}
use Rattle.tprocesses.specs.Uses.{function_uses, known_writes, selected_uses, uses_of, operation_uses}
use Rattle.tcertify.specs.declared.stored.Words.{Words}
use Rattle.tcertify.specs.Instructions.{touches_nothing}
use Rattle.tcertify.specs.Running.{State, run_part}
use Rattle.tcertify.specs.Words.{Runs}
use Rattle.tcertify.proofs.Actions.{accesses_nothing}
use Rattle.tcertify.proofs.Running.{runs_quiet}
use Rattle.tcertify.proofs.Plain.{functions_alone, operations_alone}

module _ (s : Site) (kind : Kind) (ctx : Context) (i : Instruction) (r : Registers) where
  -- the registers with Iptr behind the instruction
  abbrev pub advanced : Registers
  advanced = record r { iptr = plus r.iptr i.length }

  -- what the instruction does, on words
  abbrev pub whole : Part (Performed Outcome)
  whole = perform s (known_writes ctx (uses_of kind i (unwrap_or ctx.a 0))) (effect kind i r)

  -- by its function
  abbrev by_function : Function → Part (Performed Outcome)
  by_function f =
      perform s (known_writes ctx (function_uses kind f i.operand (unwrap_or ctx.a 0)))
      (effect_at kind f i.operand r advanced)

  pub at_function : (w v : Words) (f : Function) (x : Result (Performed Outcome) Reason) → i.function ≡ f
      → Runs (by_function f) w x v → Runs whole w x v
  unfolding effect
  at_function w v f x e h = subst (λ (g : Function). Runs (by_function g) w x v) (sym e) h

  -- by its operation
  abbrev by_operation : Option Operation → Part (Performed Outcome)
  by_operation o = perform s (known_writes ctx (selected_uses o)) (selected_effect o r advanced)

  pub at_operation : (w v : Words) (o : Operation) (x : Result (Performed Outcome) Reason) → i.function ≡ Opr
      → operation_at kind i.operand ≡ Some o
      → Runs (perform s (known_writes ctx (operation_uses o)) (local_or_left (operation_effect o advanced) o r)) w x v
      → Runs whole w x v
  at_operation w v o x e is h =
      at_function w v Opr x e (subst (λ (p : Option Operation). Runs (by_operation p) w x v) (sym is) h)

  -- it touches no memory
  pub function_alone : (i.function ≡ Ldnl → ⊥) → (i.function ≡ Ldl → ⊥) → (i.function ≡ Call → ⊥)
      → (i.function ≡ Stl → ⊥) → (i.function ≡ Stnl → ⊥) → (i.function ≡ Opr → ⊥)
      → touches_nothing (effect kind i r) ≡ true
  unfolding effect
  function_alone a b c d e f = functions_alone kind i.function i.operand r advanced a b c d e f

  pub none_alone : i.function ≡ Opr → operation_at kind i.operand ≡ None → touches_nothing (effect kind i r) ≡ true
  unfolding effect
  none_alone e is =
      subst (λ (g : Function). touches_nothing (effect_at kind g i.operand r advanced) ≡ true) (sym e)
      (subst (λ (o : Option Operation). touches_nothing (selected_effect o r advanced) ≡ true) (sym is) refl)

  pub operation_alone : (o : Operation) → i.function ≡ Opr → operation_at kind i.operand ≡ Some o
      → (o ≡ Lb → ⊥) → (o ≡ Ret → ⊥) → (o ≡ Lend → ⊥) → (o ≡ Sb → ⊥) → (o ≡ Move → ⊥)
      → touches_nothing (effect kind i r) ≡ true
  unfolding effect
  operation_alone o e is a b c d m =
      subst (λ (g : Function). touches_nothing (effect_at kind g i.operand r advanced) ≡ true) (sym e)
      (subst (λ (p : Option Operation). touches_nothing (selected_effect p r advanced) ≡ true) (sym is)
      (operations_alone o r advanced a b c d m))

-- what is done alone is done on words
pub runs_alone : (s : Site) (known : List Bool) (a : Action Outcome) (w : Words) (x : Result (Performed Outcome) Reason)
    → touches_nothing a ≡ true → ((t : State) → run_part (perform s known a) t ≡ (x, t))
    → Runs (perform s known a) w x w
runs_alone s known a w x none h = runs_quiet (perform s known a) w x h (accesses_nothing a s known none)
