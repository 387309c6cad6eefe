-- Accesses that collide have modes that collide.
use Rattle.std.proofs.Common.{◌≡◌, true, arith}
use Rattle.tplan.specs.declared.plan.Plan.{Plan}
use Rattle.tagents.specs.WalkAccesses.{modes_collide}
use Rattle.tclocks.specs.Modes.{collide}
use Rattle.tprocesses.specs.Places.{Sending}
use Rattle.tprocesses.specs.Machine.{process_machine}
use Rattle.tfollow.specs.Modes.{Manner, outputs_mode, value_mode, ModesTellCollisions}

outputs_collide : (plan : Plan) (j k : Manner) → modes_collide (process_machine plan) j k ≡ true
    → collide (outputs_mode j) (outputs_mode k) ≡ true
outputs_collide plan j k h = grind arith

values_collide : (plan : Plan) (j k : Manner) → modes_collide (process_machine plan) j k ≡ true
    → collide (value_mode j) (value_mode k) ≡ true
values_collide plan j k h = grind arith

pub modes_tell_collisions : ModesTellCollisions
modes_tell_collisions plan (Sending n w) j k h = outputs_collide plan j k h
modes_tell_collisions plan _ j k h = values_collide plan j k h
