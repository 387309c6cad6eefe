-- Steps that are told to the check of races, up to an access that it refuses.
-- Source: own choice.
use Rattle.std.specs.Prelude.{ℕ, ◌≡◌, List, [], ◌∷◌, Some}
use Rattle.tclocks.specs.declared.step.Step.{Step}
use Rattle.tclocks.specs.Checks.{Check, clock_of, accesses_at, next_step}
use Rattle.tclocks.specs.Followed.{AreAccessed, IsStep}
use Rattle.tclocks.specs.Places.{first_race}
use Rattle.tfollow.specs.Following.{Told}
use Rattle.tverdict.specs.declared.halt.Halt.{Halt}
use Rattle.tverdict.specs.declared.halt.Halt.TheVariants as halt
use Rattle.tverdict.specs.declared.verdict.Race.{Race}

-- a step was told with some of its accesses, and this race is that of the next one with the first kept access that it
-- races with
pub record IsRefused (step : Step) (before after : Check) (race : Race) : Type 0 where
  pub told : List Told
  pub made : AreAccessed step told before after
  pub same : race.step ≡ step
  pub first : first_race step.agent (clock_of after step.agent) race.mode (accesses_at after race.place)
      ≡ Some race.earlier

-- why no more of a step was told; nothing is known where memory is out
abbrev pub IsHalted : Step → Check → Check → Halt → Type 0
IsHalted step before after (halt.Race race) = IsRefused step before after race
IsHalted step before after halt.OutOfMemory = Unit {0}
IsHalted step before after (halt.Stops why) = ⊥

-- the same of the next step of an agent, from its beginning on
pub record IsStepRefused (number : ℕ) (before after : Check) (race : Race) : Type 0 where
  pub told : List Told
  pub checked : IsStep number (number ∷ []) told before after
  pub same : race.step ≡ next_step before number
  pub first : first_race number (clock_of after number) race.mode (accesses_at after race.place) ≡ Some race.earlier

abbrev pub IsStepHalted : ℕ → Check → Check → Halt → Type 0
IsStepHalted number before after (halt.Race race) = IsStepRefused number before after race
IsStepHalted number before after halt.OutOfMemory = Unit {0}
IsStepHalted number before after (halt.Stops why) = ⊥
