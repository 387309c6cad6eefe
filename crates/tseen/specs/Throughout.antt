-- What holds all along a run: what a certificate tells of its end, since that only grows, and what is so at the
-- opening.
-- Source: own choice.
use Rattle.std.specs.Prelude.{ℕ, List}
use Rattle.tplan.specs.declared.plan.Plan.{Plan}
use Rattle.tagents.specs.Agents.{IsRun}
use Rattle.tprocesses.specs.Places.{Place}
use Rattle.tprocesses.specs.Values.{Value}
use Rattle.tprocesses.specs.Opening.{opening_state}
use Rattle.tprocesses.specs.Certified.{ProcessStep, machine_of, KeptFlags, IsCertificate}
use Rattle.tseen.specs.Begun.{TellsRuns, HasFew}

-- what holds before each run that ends where it holds
abbrev pub HoldsThroughout : Plan → ((Place → Value) → Type 0) → Type 0
HoldsThroughout p Holds =
    (s end : Place → Value) (steps : List ProcessStep) → IsRun (machine_of p) s steps end → Holds end → Holds s

-- no flag was changed where processes of both priorities have run
abbrev pub KeptFlagsThroughout : Type 0
KeptFlagsThroughout = (p : Plan) → HoldsThroughout p KeptFlags

-- wherever a run of a plan with a certificate leads, no more processes live at a node than may
abbrev pub FewThroughout : Type 0
FewThroughout =
    (p : Plan) (steps others : List ProcessStep) (end s : Place → Value) → IsCertificate p steps end
    → IsRun (machine_of p) (opening_state p) others s → (n : ℕ) → HasFew s n

-- wherever a run from the opening leads, the flags are there that tell which priorities have run
abbrev pub RunsAreTold : Type 0
RunsAreTold =
    (p : Plan) (s : Place → Value) (steps : List ProcessStep) → IsRun (machine_of p) (opening_state p) steps s
    → (n : ℕ) → TellsRuns s n
