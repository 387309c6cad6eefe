-- Instructions by the codes of their functions, after each of which its process goes on.
-- Source: own choice, how the code of a row of instructions is cut up.
use Rattle.std.specs.Prelude.{ℕ, ◌≡◌, Option, Some, None}
use Rattle.tword.specs.declared.kind.Kind.{Kind}
use Rattle.tword.specs.Stores.{Store}
use Rattle.tword.specs.Claims.{Claims}
use Rattle.tword.specs.Actions.{run}
use Rattle.tcode.specs.declared.instruction.Function.{Function}
use Rattle.tcode.specs.declared.instruction.Operation.{Operation}
use Rattle.tcpu.specs.declared.registers.Registers.{Registers}
use Rattle.tcpu.specs.Effects.{effect_at, selected_effect}
use Rattle.tcpu.specs.Stretches.{gone}

-- a function with this operand, Iptr being behind it, left these registers and this store, and its process goes on,
-- whatever stood before it
abbrev pub CodeGone : Kind → Option Function → ℕ → Registers → Store → Claims → Registers → Store → Type 0
CodeGone kind (Some f) operand r s claims r' s' =
    (before : Registers) → gone (run (effect_at kind f operand before r) s claims) ≡ Some (r', s')
CodeGone kind None operand r s claims r' s' = ⊥

-- the same of the operation that an operand selects
abbrev pub SelectedGone : Option Operation → Registers → Store → Claims → Registers → Store → Type 0
SelectedGone o r s claims r' s' =
    (before : Registers) → gone (run (selected_effect o before r) s claims) ≡ Some (r', s')
