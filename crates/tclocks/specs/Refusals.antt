-- Why an access is refused.
-- Source: own choice.
use Rattle.std.specs.Prelude.{ℕ, ◌≡◌, List, None, Some}
use Rattle.tclocks.specs.declared.mode.Mode.{Mode}
use Rattle.tclocks.specs.declared.step.Access.{Access}
use Rattle.tclocks.specs.declared.refusal.Refusal.{Refusal}
use Rattle.tclocks.specs.declared.refusal.Refusal.TheVariants.{Race, OutOfMemory}
use Rattle.tclocks.specs.Places.{first_race}

-- a refusal is due: the access races, first with that one; or with none, and there is no memory to note it
abbrev pub IsDue : ℕ → List ℕ → Mode → List Access → Refusal → Type 0
IsDue agent clock mode accesses (Race access) = first_race agent clock mode accesses ≡ Some access
IsDue agent clock mode accesses OutOfMemory = first_race agent clock mode accesses ≡ None
