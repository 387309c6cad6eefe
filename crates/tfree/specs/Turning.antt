-- Workers that make many turns, each on its own.
-- Source: own choice.
use Rattle.std.specs.Prelude.{ℕ, ◌≡◌, ◌<◌, ◌≤◌, Bool, true, false, List, [], ◌∷◌, Result, Ok, Err, is_ok}
use Rattle.std.specs.List.{list_all}
use Rattle.tfree.specs.declared.log.TurnFault.{TurnFault}
use Rattle.tfree.specs.declared.log.TurnFault.TheVariants.{OutOfMemory, ClockFull}
use Rattle.tfree.specs.declared.stamp.OwnEvent.{OwnEvent}
use Rattle.tfree.specs.Views.{Share, View}
use Rattle.tfree.specs.Turns.{Phase, Step, Times, IsTurn, IsClockFull}

-- a turn that came to its end
abbrev pub WholeTurn : Share → ℕ → Step
WholeTurn s slice es es' = IsTurn s slice es true es'

-- a worker makes this number of turns; or fewer, and then the beginning of one more
abbrev pub AreTurns : Share → (turns slice : ℕ) → Phase
AreTurns s turns slice es true es' = Times turns (WholeTurn s slice) es es'
AreTurns s turns slice es false es' = (k : ℕ) × (k < turns)
    × ((mid : List OwnEvent) × Times k (WholeTurn s slice) es mid × IsTurn s slice mid false es')

-- how the turns of a worker ended: all were made, or one stopped for a fault
abbrev pub Ended : Type 0
Ended = Result (Unit {0}) TurnFault

-- a worker made its turns, and keeps its share; its clock is full where that is why it stopped
pub record IsTurned (turns slice : ℕ) (v : View) (ended : Ended) (w : View) : Type 0 where
  pub same : w.share ≡ v.share
  pub did : AreTurns v.share turns slice v.events (is_ok ended) w.events
  pub full : ended ≡ Err ClockFull → IsClockFull w

-- the turns of a worker had memory; a full clock ends them and is no fault
abbrev pub had_memory : Ended → Bool
had_memory (Ok x) = true
had_memory (Err ClockFull) = true
had_memory (Err OutOfMemory) = false

-- a worker makes this number of turns more; or if it stopped before, it is left unchanged
abbrev pub GoesOn : (turns slice : ℕ) → View → Ended → Ended → View → Type 0
GoesOn turns slice v (Ok x) e w = IsTurned turns slice v e w
GoesOn turns slice v (Err f) e w = (e ≡ Err f) × (w ≡ v)

-- each worker makes this number of turns more, unless it stopped before, by how they had ended before and how they end
abbrev pub AreEachGoneOn : (turns slice : ℕ) → List View → List Ended → List Ended → List View → Type 0
AreEachGoneOn turns slice [] [] [] [] = Unit {0}
AreEachGoneOn turns slice (v ∷ vs) (d ∷ ds) (e ∷ es) (w ∷ ws) = GoesOn turns slice v d e w
    × AreEachGoneOn turns slice vs ds es ws
AreEachGoneOn turns slice _ _ _ _ = ⊥

-- this holds for each number of turns from the least to the most: turns above the least find nothing to do, and may be
-- left out or made
abbrev pub HoldsBetween : (least most : ℕ) → (ℕ → Type 0) → Type 0
HoldsBetween least most what = (least ≤ most) × ((n : ℕ) → least ≤ n → n ≤ most → what n)

-- each worker made its turns, in their order, by how they ended
abbrev pub AreEachTurned : (turns slice : ℕ) → List View → List Ended → List View → Type 0
AreEachTurned turns slice [] [] [] = Unit {0}
AreEachTurned turns slice (v ∷ vs) (e ∷ es) (w ∷ ws) = IsTurned turns slice v e w × AreEachTurned turns slice vs es ws
AreEachTurned turns slice _ _ _ = ⊥

-- all workers made their turns, and it is told whether all of them had memory
pub record AreTurned (turns slice : ℕ) (vs : List View) (whole : Bool) (ws : List View) : Type 0 where
  pub endings : List Ended
  pub each : AreEachTurned turns slice vs endings ws
  pub memory : whole ≡ list_all had_memory endings
