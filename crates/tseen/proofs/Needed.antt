-- Registers that are known as far as an instruction needs them.
use Rattle.std.proofs.Common.{◌≡◌, ℕ, refl, sym, ap, ◌∙◌, Bool, true, false, true≢false, List, [], ◌∷◌, Option, Some}
use Rattle.std.proofs.Common.{None, unwrap_or, map}
use Rattle.std.specs.Prelude.{◌==◌, is_some, if◌then◌else◌}
use Rattle.std.proofs.lemmas.Bool.{and_parts}
use Rattle.tword.specs.declared.kind.Kind.{Kind}
use Rattle.tcode.specs.declared.instruction.Function.{Function}
use Rattle.tcode.specs.declared.instruction.Function.TheVariants.{Cj, Opr}
use Rattle.tcode.specs.declared.instruction.Operation.{Operation}
use Rattle.tcode.specs.declared.instruction.Operation.TheVariants.{Sb}
use Rattle.tcode.specs.declared.instruction.Instruction.{Instruction}
use Rattle.tcode.specs.Table.{operation_at}
use Rattle.tcpu.specs.declared.registers.Registers.{Registers}
use Rattle.tprocesses.specs.Values.{Context}
use Rattle.tprocesses.specs.Instructions.{Flags, registers}
use Rattle.tprocesses.specs.Uses.{Need, NeedsNone, NeedsA, NeedsAB, NeedsABC, Origin, Made, FromA, FromB, FromC}
use Rattle.tprocesses.specs.Uses.{FromMemory, uses, drops_one, operation_uses, selected_uses, function_uses, uses_of}
use Rattle.tprocesses.specs.Uses.{has_needed, is_known, known_value}
use Rattle.tprocesses.specs.Depending.{with_others, with_flags, AreAlike, AreBoth}
use Rattle.tseen.specs.Known.{Knows, HasRegisters}
use Rattle.tseen.proofs.Performed.{KnownAs}

-- none of the values that are written was read
abbrev pub NoneRead : List Origin → Type 0
NoneRead [] = Unit {0}
NoneRead (FromMemory ∷ os) = ⊥
NoneRead (o ∷ os) = NoneRead os

operation_none : (o : Operation) → NoneRead (operation_uses o).written
operation_none Sb = tt
operation_none _ = tt

selected_none : (o : Option Operation) → NoneRead (selected_uses o).written
selected_none None = tt
selected_none (Some o) = operation_none o

function_none : (kind : Kind) (f : Function) (n a : ℕ) → NoneRead (function_uses kind f n a).written
function_none kind Cj n a = by (a == 0)
  where
    by : (t : Bool) → NoneRead (if t then uses NeedsA FromA FromB FromC else drops_one NeedsA).written
    by true = tt
    by false = tt
function_none kind Opr n a = selected_none (operation_at kind n)
function_none kind _ n a = tt

pub none_read : (kind : Kind) (i : Instruction) (a : ℕ) → NoneRead (uses_of kind i a).written
none_read kind i a = function_none kind i.function i.operand a

-- a register that is known has its value
known_is : (o : Option ℕ) (v : ℕ) → Knows o v → is_some o ≡ true → unwrap_or o 0 ≡ v
known_is None v k h = absurd (true≢false (sym h))
known_is (Some x) v k h = k

-- registers by their parts
abbrev made : (a b c iptr wptr : ℕ) → (error halting : Bool) → Registers
made a b c iptr wptr error halting =
    record { a = a; b = b; c = c; iptr = iptr; wptr = wptr; error = error; halt_on_error = halting }

-- equal by their parts
same_parts : (a a' b b' c c' i i' w w' : ℕ) (e h : Bool) → a ≡ a' → b ≡ b' → c ≡ c' → i ≡ i' → w ≡ w'
    → made a b c i w e h ≡ made a' b' c' i' w' e h
same_parts a a' b b' c c' i i' w w' e h x y z p q =
    ap (λ v. made v b c i w e h) x ∙ ap (λ v. made a' v c i w e h) y ∙ ap (λ v. made a' b' v i w e h) z
    ∙ ap (λ v. made a' b' c' v w e h) p ∙ ap (λ v. made a' b' c' i' v e h) q

module _ (level : ℕ) (r : Registers) (c : Context) (k : HasRegisters level r c) where
  -- the registers of a context where those that are not needed have the values that are there
  pub same_registers : (f : Flags) (needs : Need) → has_needed needs c ≡ true
      → with_others needs r.a r.b r.c (registers c f) ≡ with_flags f.error f.halt_on_error r
  same_registers f NeedsNone h =
      same_parts r.a r.a r.b r.b r.c r.c c.iptr r.iptr c.wptr r.wptr f.error f.halt_on_error
      refl refl refl k.iptr k.wptr
  same_registers f NeedsA h =
      same_parts (unwrap_or c.a 0) r.a r.b r.b r.c r.c c.iptr r.iptr c.wptr r.wptr f.error f.halt_on_error
      (known_is c.a r.a k.a h) refl refl k.iptr k.wptr
  same_registers f NeedsAB h =
      let both : (is_some c.a ≡ true) × (is_some c.b ≡ true) = and_parts _ _ h in
      same_parts (unwrap_or c.a 0) r.a (unwrap_or c.b 0) r.b r.c r.c c.iptr r.iptr c.wptr r.wptr f.error
      f.halt_on_error (known_is c.a r.a k.a both.0) (known_is c.b r.b k.b both.1) refl k.iptr k.wptr
  same_registers f NeedsABC h =
      let two : (_ ≡ true) × (is_some c.c ≡ true) = and_parts _ _ h in
      let both : (is_some c.a ≡ true) × (is_some c.b ≡ true) = and_parts _ _ two.0 in
      same_parts (unwrap_or c.a 0) r.a (unwrap_or c.b 0) r.b (unwrap_or c.c 0) r.c c.iptr r.iptr c.wptr r.wptr f.error
      f.halt_on_error (known_is c.a r.a k.a both.0) (known_is c.b r.b k.b both.1) (known_is c.c r.c k.c two.1)
      k.iptr k.wptr

  -- a value that comes from a register that is known
  from_register : (o : Option ℕ) (v w x y : ℕ) → Knows o y → is_some o ≡ true → x ≡ unwrap_or o 0 → AreBoth v w x y
      → v ≡ w
  from_register o v w x y known is e both =
      ap (λ (p : ℕ × ℕ). p.0) both ∙ e ∙ known_is o y known is ∙ sym (ap (λ (p : ℕ × ℕ). p.1) both)

  -- the values that are written are known as it is told
  pub known_as : (f : Flags) (same : Bool) (ws : List Origin) → NoneRead ws
      → KnownAs same (registers c f) (with_flags f.error f.halt_on_error r) ws (map (is_known c true) ws)
  known_as f same [] none = tt
  known_as f same (Made ∷ os) none = (λ h v w a. a, known_as f same os none)
  known_as f same (FromA ∷ os) none = (
    λ h v w a. from_register c.a v w (unwrap_or c.a 0) r.a k.a h refl a,
    known_as f same os none,
  )
  known_as f same (FromB ∷ os) none = (
    λ h v w a. from_register c.b v w (unwrap_or c.b 0) r.b k.b h refl a,
    known_as f same os none,
  )
  known_as f same (FromC ∷ os) none = (
    λ h v w a. from_register c.c v w (unwrap_or c.c 0) r.c k.c h refl a,
    known_as f same os none,
  )
  known_as f same (FromMemory ∷ os) none = absurd none

  -- a register after an instruction is known as it is told
  if_known : (t : Bool) (v w : ℕ) → (t ≡ true → v ≡ w) → Knows (known_value t v) w
  if_known true v w h = h refl
  if_known false v w h = tt

  pub known_after : (f : Flags) (o : Origin) (read : Bool) (v w : ℕ)
      → AreAlike o read (registers c f) (with_flags f.error f.halt_on_error r) v w
      → Knows (known_value (is_known c read o) v) w
  known_after f Made read v w a = a
  known_after f FromA read v w a =
      if_known (is_some c.a) v w (λ h. from_register c.a v w (unwrap_or c.a 0) r.a k.a h refl a)
  known_after f FromB read v w a =
      if_known (is_some c.b) v w (λ h. from_register c.b v w (unwrap_or c.b 0) r.b k.b h refl a)
  known_after f FromC read v w a =
      if_known (is_some c.c) v w (λ h. from_register c.c v w (unwrap_or c.c 0) r.c k.c h refl a)
  known_after f FromMemory true v w a = a
  known_after f FromMemory false v w a = tt
