-- One step of the run that the program follows.
-- Source: own choice.
use Rattle.std.specs.Prelude.{ℕ, ◌≡◌, ◌+◌}
use Rattle.tplan.specs.declared.plan.Plan.{Plan}
use Rattle.tcertify.specs.Words.{reason_of}
use Rattle.tverdict.specs.declared.machine.Machine.{Machine}
use Rattle.tverdict.specs.declared.turn.Turn.{Turn}
use Rattle.tverdict.specs.declared.turn.Turn.TheVariants as turn
use Rattle.tverdict.specs.Machines.{Follows, HasNoStep, HasStep}
use Rattle.tverdict.specs.Next.{IsLookedOver}
use Rattle.tverdict.specs.Stepping.{KeepsAgents}
use Rattle.tverdict.specs.Verdicts.{EndsInRace, EndsStopped}

-- the machine was looked at, and the agent of this number, which had a step then, has made it
pub record HasMade (plan : Plan) (old : Machine) (number : ℕ) (new : Machine) : Type 0 where
  pub looked : Machine
  pub over : IsLookedOver old looked
  pub had : HasStep plan looked number
  pub follows : Follows plan new
  pub done : new.done ≡ old.done + 1
  pub kept : KeepsAgents old new

-- what a turn tells is true
abbrev pub IsTurned : Plan → Machine → Turn → Machine → Type 0
IsTurned plan old (turn.Made number) new = HasMade plan old number new
IsTurned plan old turn.Over new = Follows plan new × HasNoStep plan new × (new.done ≡ old.done)
IsTurned plan old (turn.Stops number why) new = EndsStopped plan new number (reason_of why)
IsTurned plan old (turn.Race race) new = EndsInRace plan new race
