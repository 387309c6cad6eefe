-- Where a net is at rest, so are its processes.
-- Source: own choice.
use Rattle.std.specs.Prelude.{◌≡◌, None}
use Rattle.tplan.specs.declared.plan.Plan.{Plan}
use Rattle.tnet.specs.Building.{fault_of}
use Rattle.tnet.specs.Rendezvous.{Configuration}
use Rattle.treduction.specs.Ends.{IsOver as IsAtEnd}
use Rattle.tagents.specs.Agents.{IsOver}
use Rattle.tprocesses.specs.Places.{Place}
use Rattle.tprocesses.specs.Values.{Value}
use Rattle.tprocesses.specs.Certified.{machine_of}
use Rattle.tseen.specs.Shown.{Shows}
use Rattle.tseen.specs.Steps.{AreSteady}
use Rattle.tseen.specs.AgentSteps.{NothingStops}

-- where no step of the rendezvous machine is lawful, no agent of a state that shows it has a step, if none would stop
abbrev pub RestsAreSeen : Type 0
RestsAreSeen =
    (p : Plan) (c : Configuration) (s : Place → Value) → fault_of p ≡ None → Shows p c s → AreSteady c → IsAtEnd c
    → NothingStops p s → IsOver (machine_of p) s
