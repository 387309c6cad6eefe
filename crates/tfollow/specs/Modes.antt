-- The mode by which the check of races knows each access of the process machine. To the check, a word and how many
-- pending outputs have a byte of it are one place.
-- Source: own choice.
use Rattle.std.specs.Prelude.{◌≡◌, zero, suc, true}
use Rattle.tplan.specs.declared.plan.Plan.{Plan}
use Rattle.tagents.specs.Tables.{Accesses}
use Rattle.tagents.specs.WalkAccesses.{accesses_of, modes_collide}
use Rattle.tagents.specs.WalkAccesses as walks
use Rattle.tclocks.specs.declared.mode.Mode.{Mode}
use Rattle.tclocks.specs.declared.mode.Mode.TheVariants.{Looks, Checks, Puts, Lends, Commutes}
use Rattle.tclocks.specs.Modes.{collide}
use Rattle.tprocesses.specs.Places.{Place, Sending}
use Rattle.tprocesses.specs.Changes.{ChangeKind}
use Rattle.tprocesses.specs.Changes as change
use Rattle.tprocesses.specs.Machine.{process_machine}
use Rattle.tprocesses.specs.Certified.{ProcessStep}

-- how a place is accessed: by a look, or by a change of some kind
abbrev pub Manner : Type 0
Manner = walks.Mode ChangeKind

-- the accesses of the steps of a plan's machine
abbrev pub accesses_in : Plan → Accesses Place Manner ProcessStep
accesses_in plan = accesses_of (process_machine plan)

-- the mode of an access to how many pending outputs have a byte of a word. It is only looked at, and added to
abbrev pub outputs_mode : Manner → Mode
outputs_mode walks.Looks = Checks
outputs_mode (walks.Changes change.Adds) = Lends
outputs_mode (walks.Changes _) = Puts

-- the mode of an access to another place: each kind of change that commutes with itself has a number. Priorities are 0
-- and 1
abbrev pub value_mode : Manner → Mode
value_mode walks.Looks = Looks
value_mode (walks.Changes change.Puts) = Puts
value_mode (walks.Changes change.Engages) = Commutes 0
value_mode (walks.Changes (change.Decrements zero)) = Commutes 1
value_mode (walks.Changes (change.Decrements (suc zero))) = Commutes 2
value_mode (walks.Changes (change.Decrements (suc (suc p)))) = Puts
value_mode (walks.Changes change.Adds) = Commutes 10
value_mode (walks.Changes change.Raises) = Commutes 11

-- the mode of an access to a place
abbrev pub mode_at : Place → Manner → Mode
mode_at (Sending n k) manner = outputs_mode manner
mode_at _ manner = value_mode manner

-- accesses to a place that collide have modes that collide
abbrev pub ModesTellCollisions : Type 0
ModesTellCollisions =
    (plan : Plan) (p : Place) (j k : Manner) → modes_collide (process_machine plan) j k ≡ true
    → collide (mode_at p j) (mode_at p k) ≡ true
