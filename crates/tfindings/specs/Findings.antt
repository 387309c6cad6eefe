-- What is told of a verdict.
-- Source: own choice.
use Rattle.std.specs.Prelude.{ℕ, ◌≡◌, Bool, true, false, List, Option, Some, None}
use Rattle.tplan.specs.declared.plan.Plan.{Plan}
use Rattle.tclocks.specs.declared.mode.Mode.{Mode}
use Rattle.tclocks.specs.declared.step.Step.{Step}
use Rattle.tcertify.specs.declared.stop.Stop.{Stop}
use Rattle.tverdict.specs.declared.machine.Machine.{Machine}
use Rattle.tverdict.specs.declared.verdict.Race.{Race}
use Rattle.tverdict.specs.declared.verdict.Refusal.TheVariants as refusal
use Rattle.tverdict.specs.declared.verdict.Verdict.{Verdict}
use Rattle.tverdict.specs.declared.verdict.Verdict.TheVariants as verdict
use Rattle.std.specs.Io.KnownBytes.{Appends}
use Rattle.tplan.specs.declared.wiring.Wiring.{Wiring}
use Rattle.tfiles.specs.Outputs.{IsCut}
use Rattle.tnames.specs.declared.nodes.NodeNames.{NodeNames}
use Rattle.topening.specs.declared.fault.Fault.{Fault}
use Rattle.topening.specs.declared.fault.Fault.TheVariants as fault
use Rattle.topening.specs.declared.verdict.Verdict as outcomes
use Rattle.topening.specs.declared.verdict.Verdict.TheVariants.{Clear, Marked, Cut}
use Rattle.topening.specs.Openings.{IsPlanOf}
use Rattle.tverdict.specs.Agents.{IsThere}
use Rattle.tverdict.specs.Verdicts.{IsTold}
use Rattle.tfindings.specs.declared.finding.Finding.{Finding}
use Rattle.tfindings.specs.declared.finding.Finding.TheVariants as finding
use Rattle.tfindings.specs.declared.finding.Made.{Made}
use Rattle.tfindings.specs.declared.finding.Touch.{Touch}
use Rattle.tfindings.specs.Steps.{IsMadeBy, holder}
use Rattle.tfindings.specs.Telling.{CanBePrinted, CanBeTold, finding_text}

-- an access of a step is told
pub record IsTouchOf (plan : Plan) (how : Mode) (step : Step) (touch : Touch) : Type 0 where
  pub mode : touch.mode ≡ how
  pub made : IsMadeBy plan step.agent (Some step.number) touch.made

-- a race is told, with the machine where it was found. Another agent may have the number of the earlier step there
pub record TellsRace (plan : Plan) (m : Machine) (race : Race) (place : ℕ) (earlier last : Touch) : Type 0 where
  pub at : place ≡ race.place
  pub first : IsTouchOf plan race.earlier.mode race.earlier.step earlier
  pub there : IsThere m.nodes.items earlier.made.agent
  pub second : IsTouchOf plan race.mode race.step last
  pub agent : holder m race.step.agent ≡ Some last.made.agent

abbrev pub IsRaceOf : Plan → Machine → Race → Finding → Type 0
IsRaceOf plan m race (finding.Race place earlier last) = TellsRace plan m race place earlier last
IsRaceOf plan m race _ = ⊥

-- a step that stops is told, with the machine where it stopped
pub record TellsStop (plan : Plan) (m : Machine) (number : ℕ) (why : Stop) (f : Finding) : Type 0 where
  pub made : Made
  pub is : f ≡ finding.Stopped made why
  pub step : IsMadeBy plan number None made
  pub agent : holder m number ≡ Some made.agent

-- what is told of a verdict, with the machine as its run left it
abbrev pub IsFindingOf : Plan → Machine → Verdict → Finding → Type 0
IsFindingOf plan m verdict.Certified f = f ≡ finding.Certified
IsFindingOf plan m (verdict.Race race) f = IsRaceOf plan m race f
IsFindingOf plan m (verdict.Refused (refusal.Stops number why)) f = TellsStop plan m number why f
IsFindingOf plan m (verdict.Refused (refusal.TooManyProcesses n)) f = f ≡ finding.TooManyProcesses n
IsFindingOf plan m (verdict.Refused (refusal.FlagsChanged n)) f = f ≡ finding.FlagsChanged n
IsFindingOf plan m verdict.Cut f = f ≡ finding.Cut

-- a run of a plan's process machine was made, and what was found is true of it: it can be printed
pub record HasRun (plan : Plan) (most : ℕ) (m : Machine) (f : Finding) : Type 0 where
  pub verdict : Verdict
  pub true : IsTold plan most m verdict
  pub found : IsFindingOf plan m verdict f
  pub told : CanBeTold m f
  pub printed : CanBePrinted plan m f

-- the plan is certified
abbrev pub is_certified : Finding → Bool
is_certified finding.Certified = true
is_certified f = false

-- the verdict of the command
abbrev pub outcome_of : Finding → outcomes.Verdict
outcome_of finding.Certified = Clear
outcome_of (finding.Race place earlier last) = Marked
outcome_of _ = Cut

-- such a run was made of the plan of a wiring and the files of its images
pub record IsRunOf (w : Wiring) (files : List (List ℕ)) (most : ℕ) (plan : Plan) (m : Machine) (f : Finding)
    : Type 0 where
  pub planned : IsPlanOf w files plan
  pub run : HasRun plan most m f

-- a text tells what was found by such a run
pub record IsFindingText (w : Wiring) (files : List (List ℕ)) (most : ℕ) (names : List NodeNames) (f : Finding)
    (text : List ℕ) : Type 0 where
  pub plan : Plan
  pub machine : Machine
  pub run : IsRunOf w files most plan machine f
  pub is : text ≡ finding_text names plan machine f

-- such a text is written, and the verdict of the command is what it tells
abbrev pub HasFound : Wiring → List (List ℕ) → ℕ → List NodeNames → Option (List ℕ) → Option (List ℕ)
    → outcomes.Verdict → Type 0
HasFound w files most names old new outcome =
    (f : Finding) × (text : List ℕ) × IsFindingText w files most names f text × Appends old new text
    × (outcome ≡ outcome_of f)

-- what has gone out where a fault is answered: nothing; or, where the output failed, the beginning of such a text
abbrev pub IsFindingLeft : {W : Type 0} → (W → Option (List ℕ)) → Wiring → List (List ℕ) → ℕ → List NodeNames → W → W
    → Fault → Type 0
IsFindingLeft contents w files most names old new (fault.Output g) =
    (f : Finding) × (text : List ℕ) × IsFindingText w files most names f text
    × IsCut (contents old) (contents new) text g.written
IsFindingLeft contents w files most names old new g = new ≡ old
