-- What an instruction does depends on the registers and on what it reads as it is told (`Uses`).
-- Source: own choice, a law of the rows of functions and operations in `tcpu`.
use Rattle.std.specs.Prelude.{ℕ, ◌≡◌, ◌||◌, Bool, true, false, List, [], ◌∷◌, if◌then◌else◌}
use Rattle.tword.specs.declared.kind.Kind.{Kind}
use Rattle.tword.specs.Actions.{Action, answer, breaks, requiring, touching_word, touching_byte, writing_word}
use Rattle.tword.specs.Actions.{writing_byte, copying}
use Rattle.tcode.specs.declared.instruction.Instruction.{Instruction}
use Rattle.tcpu.specs.declared.registers.Registers.{Registers}
use Rattle.tcpu.specs.declared.registers.Next.{Next}
use Rattle.tcpu.specs.declared.registers.Next.TheVariants.{Go, Halt}
use Rattle.tcpu.specs.Outcomes.{Outcome}
use Rattle.tcpu.specs.Effects.{effect}
use Rattle.tprocesses.specs.Instructions.{has_flags}
use Rattle.tprocesses.specs.Uses.{Need, NeedsNone, NeedsA, NeedsAB, NeedsABC, Origin, Made, FromA, FromB, FromC}
use Rattle.tprocesses.specs.Uses.{FromMemory, Uses, uses_of}

-- registers with other values in those of A, B and C that are not needed
abbrev pub with_others : Need → (a b c : ℕ) → Registers → Registers
with_others NeedsNone a b c r = record r { a = a; b = b; c = c }
with_others NeedsA a b c r = record r { b = b; c = c }
with_others NeedsAB a b c r = record r { c = c }
with_others NeedsABC a b c r = r

-- the first two values are the last two
abbrev pub AreBoth : (v w x y : ℕ) → Type 0
AreBoth v w x y = ◌≡◌ {A = ℕ × ℕ} (v, w) (x, y)

-- two values of one origin, where the registers were these: what is made is the same, what comes from a register is its
-- value, and what was read is the same if the same was read
abbrev pub AreAlike : Origin → (same_reads : Bool) → (r s : Registers) → (v w : ℕ) → Type 0
AreAlike Made same r s v w = v ≡ w
AreAlike FromA same r s v w = AreBoth v w r.a s.a
AreAlike FromB same r s v w = AreBoth v w r.b s.b
AreAlike FromC same r s v w = AreBoth v w r.c s.c
AreAlike FromMemory true r s v w = v ≡ w
AreAlike FromMemory false r s v w = Unit {0}

-- whatever is read, the same or not
abbrev pub ForReads : (same_reads : Bool) → (ℕ → ℕ → Type 0) → Type 0
ForReads true P = (v : ℕ) → P v v
ForReads false P = (v w : ℕ) → P v w

-- the origin of the value that is written next, and of the others after it
abbrev pub next_origin : List Origin → Origin
next_origin [] = Made
next_origin (o ∷ os) = o

abbrev pub later_origins : List Origin → List Origin
later_origins [] = []
later_origins (o ∷ os) = os

-- the registers except for A, B and C
abbrev pub other_registers : Registers → Registers
other_registers r = record r { a = 0; b = 0; c = 0 }

-- two instructions end alike: with registers of these origins, and everything else the same
abbrev pub EndAlike : Uses → (same_reads : Bool) → (r s : Registers) → Outcome → Outcome → Type 0
EndAlike u same r s (r', next) (s', next') =
    (next ≡ next') × AreAlike u.a same r s r'.a s'.a × AreAlike u.b same r s r'.b s'.b
    × AreAlike u.c same r s r'.c s'.c × (other_registers r' ≡ other_registers s')

-- two actions do alike: they touch and check the same, write values of these origins, and end alike
abbrev pub DoAlike : Uses → (written : List Origin) → (same_reads : Bool) → (r s : Registers) → Action Outcome
    → Action Outcome → Type 0
DoAlike u ws same r s (answer x) (answer y) = EndAlike u same r s x y
DoAlike u ws same r s (breaks b) (breaks c) = b ≡ c
DoAlike u ws same r s (requiring t b x) (requiring t' c y) = (t ≡ t') × (b ≡ c) × DoAlike u ws same r s x y
DoAlike u ws same r s (touching_word m a x) (touching_word m' b y) =
    (m ≡ m') × (a ≡ b) × ForReads same (λ v w. DoAlike u ws same r s (x v) (y w))
DoAlike u ws same r s (touching_byte m a x) (touching_byte m' b y) =
    (m ≡ m') × (a ≡ b) × ForReads same (λ v w. DoAlike u ws same r s (x v) (y w))
DoAlike u ws same r s (writing_word a v x) (writing_word b w y) =
    (a ≡ b) × AreAlike (next_origin ws) same r s v w × DoAlike u (later_origins ws) same r s x y
DoAlike u ws same r s (writing_byte a v x) (writing_byte b w y) =
    (a ≡ b) × AreAlike (next_origin ws) same r s v w × DoAlike u (later_origins ws) same r s x y
DoAlike u ws same r s (copying a b n x) (copying c d m y) =
    (a ≡ c) × (b ≡ d) × (n ≡ m) × DoAlike u ws same r s x y
DoAlike u ws same r s _ _ = ⊥

-- an instruction does alike whatever the registers have that it does not need, and whatever it reads that need not be
-- known
abbrev pub UsesAreTold : Type 0
UsesAreTold =
    (kind : Kind) (i : Instruction) (r : Registers) (a b c : ℕ) (same_reads : Bool)
    → ((uses_of kind i r.a).reads_known ≡ true → same_reads ≡ true)
    → DoAlike (uses_of kind i r.a) (uses_of kind i r.a).written same_reads r
    (with_others (uses_of kind i r.a).needs a b c r) (effect kind i r)
    (effect kind i (with_others (uses_of kind i r.a).needs a b c r))

-- registers with these flags
abbrev pub with_flags : (error halt_on_error : Bool) → Registers → Registers
with_flags error halt_on_error r = record r { error = error; halt_on_error = halt_on_error }

-- an instruction that is done with Error clear and HaltOnError set sets Error exactly if the processor halts
abbrev pub fails : Next → Bool
fails Halt = true
fails _ = false

-- how an instruction ends where the flags were these, told by how it ends with Error clear and HaltOnError set
abbrev pub EndsByFlags : (error halt_on_error : Bool) → Outcome → Outcome → Type 0
EndsByFlags error halting (r, next) (r', next') =
    (r' ≡ with_flags (fails next || error) halting r)
    × (next' ≡ (if fails next then (if halting then Halt else Go) else next))

-- so an action does, which touches, checks, reads and writes the same
abbrev pub DoesByFlags : (error halt_on_error : Bool) → Action Outcome → Action Outcome → Type 0
DoesByFlags e h (answer x) (answer y) = EndsByFlags e h x y
DoesByFlags e h (breaks b) (breaks c) = b ≡ c
DoesByFlags e h (requiring t b x) (requiring t' c y) = (t ≡ t') × (b ≡ c) × DoesByFlags e h x y
DoesByFlags e h (touching_word m a x) (touching_word m' b y) =
    (m ≡ m') × (a ≡ b) × ((v : ℕ) → DoesByFlags e h (x v) (y v))
DoesByFlags e h (touching_byte m a x) (touching_byte m' b y) =
    (m ≡ m') × (a ≡ b) × ((v : ℕ) → DoesByFlags e h (x v) (y v))
DoesByFlags e h (writing_word a v x) (writing_word b w y) = (a ≡ b) × (v ≡ w) × DoesByFlags e h x y
DoesByFlags e h (writing_byte a v x) (writing_byte b w y) = (a ≡ b) × (v ≡ w) × DoesByFlags e h x y
DoesByFlags e h (copying a b n x) (copying c d m y) = (a ≡ c) × (b ≡ d) × (n ≡ m) × DoesByFlags e h x y
DoesByFlags e h _ _ = ⊥

-- an instruction that is not about flags need not look at them to tell what it does
abbrev pub FlagsAreTold : Type 0
FlagsAreTold =
    (kind : Kind) (i : Instruction) (r : Registers) (e h : Bool) → has_flags kind i ≡ false
    → DoesByFlags e h (effect kind i (with_flags false true r)) (effect kind i (with_flags e h r))
