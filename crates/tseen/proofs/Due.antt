-- An agent whose gates are open has its step, and makes it where no step stops.
use Rattle.std.proofs.Common.{◌≡◌, refl, true}
use Rattle.tplan.specs.declared.plan.Plan.{Plan}
use Rattle.tagents.specs.Walks.{are_open, label_of, state_after}
use Rattle.tprocesses.specs.Places.{Name, Standing}
use Rattle.tprocesses.specs.Values.{Stand, IsStand}
use Rattle.tprocesses.specs.Machine.{Agent, Process, process_machine, is_ready}
use Rattle.tseen.specs.AgentSteps.{HasStep}
use Rattle.tseen.proofs.After.{State}

-- an agent whose gates are open has a step
pub due : (p : Plan) (a : Agent) (s : State) → are_open (process_machine p) a s ≡ true → HasStep p a s
due p a s opened =
    record {
      label = label_of (process_machine p) a s;
      agent = refl;
      state = state_after (process_machine p) (label_of (process_machine p) a s).deed s;
      step = rw opened refl;
    }

-- a process that is ready
pub process_due : (p : Plan) (x : Name) (s : State) (stand : Stand) → s (Standing x) ≡ IsStand stand
    → is_ready stand ≡ true → HasStep p (Process x) s
process_due p x s stand is ready = due p (Process x) s (rw (is, ready) refl)
