-- What is known is what is there. What is not known may be anything.
-- Source: own choice.
use Rattle.std.specs.Prelude.{ℕ, ◌≡◌, List, [], ◌∷◌, Option, Some, None, IfSome}
use Rattle.tword.specs.Stores.{Store, word_at}
use Rattle.tword.specs.Words.{word_below}
use Rattle.tcpu.specs.declared.registers.Registers.{Registers}
use Rattle.tproc.specs.Machine.{priority_of, workspace_of}
use Rattle.tproc.specs.Queues.{iptr_word}
use Rattle.tprocesses.specs.Values.{Context}

-- a register that is known has this value
abbrev pub Knows : Option ℕ → ℕ → Type 0
Knows known value = IfSome known (λ v. v ≡ value)

-- cells are as many, and each one that is known holds this byte
abbrev pub KnowsCells : Store → Store → Type 0
KnowsCells [] [] = Unit {0}
KnowsCells (known ∷ rest) (cell ∷ cells) = IfSome known (λ b. cell ≡ Some b) × KnowsCells rest cells
KnowsCells _ _ = ⊥

-- messages are as many, and the known cells of each hold these bytes
abbrev pub KnowsMessages : List Store → List Store → Type 0
KnowsMessages [] [] = Unit {0}
KnowsMessages (known ∷ rest) (message ∷ messages) = KnowsCells known message × KnowsMessages rest messages
KnowsMessages _ _ = ⊥

-- the context of a process that has these registers
pub record HasRegisters (level : ℕ) (r : Registers) (k : Context) : Type 0 where
  pub priority : k.priority ≡ level
  pub wptr : k.wptr ≡ r.wptr
  pub iptr : k.iptr ≡ r.iptr
  pub a : Knows k.a r.a
  pub b : Knows k.b r.b
  pub c : Knows k.c r.c
  pub nothing_lent : k.lent ≡ None

-- the context of a process that is queued or waits: it will go on at its saved Iptr, with A, B and C 0
pub record HasSaved (store : Store) (process : ℕ) (k : Context) : Type 0 where
  pub priority : k.priority ≡ priority_of process
  pub wptr : k.wptr ≡ workspace_of process
  pub iptr : k.iptr ≡ word_at store (word_below (workspace_of process) iptr_word)
  pub a : Knows k.a 0
  pub b : Knows k.b 0
  pub c : Knows k.c 0
