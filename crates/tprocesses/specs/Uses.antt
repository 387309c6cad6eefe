-- What an instruction needs to know, and where what it leaves comes from: so a register or a byte that is not known may
-- be moved, but not decide anything.
-- Source: own choice, after the rows of functions and operations in `tcpu`.
use Rattle.std.specs.Prelude.{ℕ, ◌==◌, Bool, true, false, ◌&&◌, List, [], ◌∷◌, map, Option, Some, None, is_some}
use Rattle.std.specs.Prelude.{if◌then◌else◌}
use Rattle.tword.specs.declared.kind.Kind.{Kind}
use Rattle.tcode.specs.declared.instruction.Function.{Function}
use Rattle.tcode.specs.declared.instruction.Function.TheVariants.{J, Ldlp, Ldnl, Ldc, Ldnlp, Ldl, Adc, Call, Cj}
use Rattle.tcode.specs.declared.instruction.Function.TheVariants.{Ajw, Eqc, Stl, Stnl, Opr}
use Rattle.tcode.specs.declared.instruction.Operation.{Operation}
use Rattle.tcode.specs.declared.instruction.Operation.TheVariants.{Rev, Lb, Bsub, Diff, Add, Gcall, Prod, Gt, Wsub}
use Rattle.tcode.specs.declared.instruction.Operation.TheVariants.{Sub, Csub0, Ladd, Norm, Ldiv, Ldpi, Xdble, Rem}
use Rattle.tcode.specs.declared.instruction.Operation.TheVariants.{Ret, Lend, Testerr, Testpranal, Div, Lmul, Not}
use Rattle.tcode.specs.declared.instruction.Operation.TheVariants.{Xor, Bcnt, Lshr, Lshl, Lsum, Lsub, Xword, Sb}
use Rattle.tcode.specs.declared.instruction.Operation.TheVariants.{Gajw, Wcnt, Shr, Shl, Mint, And, Move, Or, Csngl}
use Rattle.tcode.specs.declared.instruction.Operation.TheVariants.{Ccnt1, Ldiff, Sum, Mul, Cword, Testhalterr, Dup}
use Rattle.tcode.specs.declared.instruction.Instruction.{Instruction}
use Rattle.tcode.specs.Table.{operation_at}
use Rattle.tprocesses.specs.Values.{Context}

-- how many registers, from A on, an instruction decides by or computes with
pub data Need : Type 0 where
  NeedsNone NeedsA NeedsAB NeedsABC : Need

-- where a value comes from
pub data Origin : Type 0 where
  -- it is made of what has to be known
  Made : Origin
  -- it is the value of a register
  FromA FromB FromC : Origin
  -- it is what was read
  FromMemory : Origin

-- what an instruction needs, whether what it reads has to be known, where A, B and C come from after it, and where the
-- values come from that it writes, in their order
pub record Uses : Type 0 where
  pub needs : Need
  pub reads_known : Bool
  pub a : Origin
  pub b : Origin
  pub c : Origin
  pub written : List Origin

-- an instruction that writes nothing
abbrev pub uses : Need → (a b c : Origin) → Uses
uses needs a b c = record { needs = needs; reads_known = false; a = a; b = b; c = c; written = [] }

-- what an instruction leaves that pushes a value, one that drops as many registers as it needs, and one that leaves
-- a value in the place of one register or of two
abbrev pub pushes : Origin → Uses
pushes value = uses NeedsNone value FromA FromB

abbrev pub stays : Uses
stays = uses NeedsNone FromA FromB FromC

abbrev pub replaces_one : Origin → Uses
replaces_one value = uses NeedsA value FromB FromC

abbrev pub replaces_two : Uses
replaces_two = uses NeedsAB Made FromC FromC

abbrev pub leaves_pair : Uses
leaves_pair = uses NeedsABC Made Made FromC

abbrev pub drops_one : Need → Uses
drops_one needs = uses needs FromB FromC FromC

abbrev pub drops_all : Need → Uses
drops_all needs = uses needs FromC FromC FromC

-- what each operation uses; those of the scheduler say so themselves
abbrev pub operation_uses : Operation → Uses
operation_uses Rev = uses NeedsNone FromB FromA FromC
operation_uses Lb = replaces_one FromMemory
operation_uses Bsub = replaces_two
operation_uses Diff = replaces_two
operation_uses Add = replaces_two
operation_uses Gcall = replaces_one Made
operation_uses Prod = replaces_two
operation_uses Gt = replaces_two
operation_uses Wsub = replaces_two
operation_uses Sub = replaces_two
operation_uses Csub0 = drops_one NeedsAB
operation_uses Ladd = uses NeedsABC Made FromC FromC
operation_uses Norm = uses NeedsAB Made Made Made
operation_uses Ldiv = leaves_pair
operation_uses Ldpi = replaces_one Made
operation_uses Xdble = uses NeedsA Made Made FromB
operation_uses Rem = replaces_two
operation_uses Ret = record stays { reads_known = true }
operation_uses Lend = record (drops_all NeedsAB) { reads_known = true }
operation_uses Testerr = pushes Made
operation_uses Testpranal = pushes Made
operation_uses Div = replaces_two
operation_uses Lmul = leaves_pair
operation_uses Not = replaces_one Made
operation_uses Xor = replaces_two
operation_uses Bcnt = replaces_one Made
operation_uses Lshr = leaves_pair
operation_uses Lshl = leaves_pair
operation_uses Lsum = leaves_pair
operation_uses Lsub = uses NeedsABC Made FromC FromC
operation_uses Xword = replaces_two
operation_uses Sb = record (drops_all NeedsA) { written = FromB ∷ [] }
operation_uses Gajw = replaces_one Made
operation_uses Wcnt = uses NeedsA Made Made FromB
operation_uses Shr = replaces_two
operation_uses Shl = replaces_two
operation_uses Mint = pushes Made
operation_uses And = replaces_two
operation_uses Move = drops_all NeedsABC
operation_uses Or = replaces_two
operation_uses Csngl = replaces_two
operation_uses Ccnt1 = drops_one NeedsAB
operation_uses Ldiff = leaves_pair
operation_uses Sum = replaces_two
operation_uses Mul = replaces_two
operation_uses Cword = drops_one NeedsAB
operation_uses Testhalterr = pushes Made
operation_uses Dup = uses NeedsNone FromA FromA FromB
operation_uses _ = stays

-- what the operation uses that an operand selects, if there is one
abbrev pub selected_uses : Option Operation → Uses
selected_uses None = stays
selected_uses (Some o) = operation_uses o

-- what each function uses; `cj` keeps A where it jumps
abbrev pub function_uses : Kind → Function → (operand a : ℕ) → Uses
function_uses kind J n a = stays
function_uses kind Ldlp n a = pushes Made
function_uses kind Ldnl n a = replaces_one FromMemory
function_uses kind Ldc n a = pushes Made
function_uses kind Ldnlp n a = replaces_one Made
function_uses kind Ldl n a = pushes FromMemory
function_uses kind Adc n a = replaces_one Made
function_uses kind Call n a =
    record (uses NeedsNone Made FromB FromC) { written = Made ∷ FromA ∷ FromB ∷ FromC ∷ [] }
function_uses kind Cj n a = if a == 0 then uses NeedsA FromA FromB FromC else drops_one NeedsA
function_uses kind Ajw n a = stays
function_uses kind Eqc n a = replaces_one Made
function_uses kind Stl n a = record (drops_one NeedsNone) { written = FromA ∷ [] }
function_uses kind Stnl n a = record (drops_all NeedsA) { written = FromB ∷ [] }
function_uses kind Opr n a = selected_uses (operation_at kind n)

-- what an instruction uses, where A has this value
abbrev pub uses_of : Kind → Instruction → ℕ → Uses
uses_of kind i a = function_uses kind i.function i.operand a

-- the needed registers are known
abbrev pub has_needed : Need → Context → Bool
has_needed NeedsNone c = true
has_needed NeedsA c = is_some c.a
has_needed NeedsAB c = is_some c.a && is_some c.b
has_needed NeedsABC c = is_some c.a && is_some c.b && is_some c.c

-- a value is known, where what was read is or is not
abbrev pub is_known : Context → Bool → Origin → Bool
is_known c read Made = true
is_known c read FromA = is_some c.a
is_known c read FromB = is_some c.b
is_known c read FromC = is_some c.c
is_known c read FromMemory = read

-- whether the values that an instruction writes are known
abbrev pub known_writes : Context → Uses → List Bool
known_writes c u = map (is_known c true) u.written

-- a register after an instruction
abbrev pub known_value : Bool → ℕ → Option ℕ
known_value known v = if known then Some v else None
