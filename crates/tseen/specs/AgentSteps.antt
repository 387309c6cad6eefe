-- Steps of any agent of the process machine, and states in which none stops.
-- Source: own choice.
use Rattle.std.specs.Prelude.{◌≡◌, false, List, None}
use Rattle.tplan.specs.declared.plan.End.{End}
use Rattle.tplan.specs.declared.plan.Plan.{Plan}
use Rattle.tagents.specs.Agents.{Does, IsRun}
use Rattle.tprocesses.specs.Places.{Place}
use Rattle.tprocesses.specs.Values.{Value}
use Rattle.tprocesses.specs.Machine.{Agent, Wire}
use Rattle.tprocesses.specs.Opening.{opening_state}
use Rattle.tprocesses.specs.Certified.{ProcessStep, machine_of, IsCertificate}

-- an agent has a step
pub record HasStep (p : Plan) (a : Agent) (s : Place → Value) : Type 0 where
  pub label : ProcessStep
  pub agent : label.agent ≡ a
  pub state : Place → Value
  pub step : Does (machine_of p) s label state

-- an agent makes a step that does not stop
pub record AgentMakes (p : Plan) (a : Agent) (s s' : Place → Value) : Type 0 where
  pub label : ProcessStep
  pub agent : label.agent ≡ a
  pub step : Does (machine_of p) s label s'
  pub goes_on : (machine_of p).stops label ≡ false

-- the step hands over no message, if the agent is a wire
abbrev pub HandsNone : {p : Plan} {a : Agent} {s s' : Place → Value} → AgentMakes p a s s' → Type 0
HandsNone {a} m = (e : End) → a ≡ Wire e → m.label.deed.message ≡ None

-- an agent has no step, or one that does not stop
abbrev pub NeverStops : Plan → Agent → (Place → Value) → Type 0
NeverStops p a s =
    (label : ProcessStep) (s' : Place → Value) → label.agent ≡ a → Does (machine_of p) s label s'
    → (machine_of p).stops label ≡ false

-- no agent has a step that stops. So no word is spoilt: whoever takes a channel word that is in another use spoils it,
-- and its own step does not stop, but that of a successor does
abbrev pub NothingStops : Plan → (Place → Value) → Type 0
NothingStops p s = (a : Agent) → NeverStops p a s

-- the same holds wherever a run of a plan with a certificate leads
abbrev pub CertifiedRunsNeverStop : Type 0
CertifiedRunsNeverStop =
    (p : Plan) (steps others : List ProcessStep) (end s : Place → Value) → IsCertificate p steps end
    → IsRun (machine_of p) (opening_state p) others s → NothingStops p s
