-- The first of two processes at an internal channel is seen.
use Rattle.std.proofs.Common.{ℕ}
use Rattle.tplan.specs.declared.plan.Plan.{Plan}
use Rattle.tnet.specs.Rendezvous.{Configuration}
use Rattle.tprocesses.specs.Places.{Name}
use Rattle.tseen.specs.AgentSteps.{NothingStops}
use Rattle.tseen.specs.Messages.{Communicates, FirstHalvesAreSeen}
use Rattle.tseen.proofs.After.{State, after_step}
use Rattle.tseen.proofs.AtOperation.{operation_then}
use Rattle.tseen.proofs.Asked.{message_then}
use Rattle.tseen.proofs.Taken.{HasTaken}
use Rattle.tseen.proofs.FirstShown.{first_leads}

-- a process that sends or receives on an internal channel has taken its half
pub half_taken : (p : Plan) (c : Configuration) (s s' : State) (n : ℕ) (x : Name) (k : Communicates p c s s' n x)
    → HasTaken p c s n x k.current s'
half_taken p c s s' n x k =
    after_step p x s s' Q k.makes (operation_then p c s n x k.current k.operation Q k.next (λ t a.
    message_then p c s n x k.current k.internal k.operation k.message t a Q (λ u v laid asked taken none. record {
      operation = k.operation;
      size = a.size;
      before = u;
      laid = laid;
      asked = asked;
      taken = taken;
      none_stops = none;
      steps = a.steps;
    }))) k.none_stops
  where
    Q : Unit {0} → State → Type 0
    Q _ v = NothingStops p v → HasTaken p c s n x k.current v

pub first_halves_are_seen : FirstHalvesAreSeen
first_halves_are_seen p c s s' n x k finds =
    first_leads p c s n x k.current s' (half_taken p c s s' n x k) finds
