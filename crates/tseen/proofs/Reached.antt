-- The states that runs of a plan with a certificate come to.
use Rattle.tword.specs.Stores.{Store}
use Rattle.std.proofs.Common.{refl, false, ap, ◌∙◌, ◌≡◌, ℕ, suc, ◌<◌, ◌≤◌, ◌⊎◌, List, [], ◌∷◌, ◌++◌, length}
use Rattle.std.proofs.Common.{length-append, arith}
use Rattle.tnet.specs.Rendezvous.{Configuration}
use Rattle.tseen.proofs.Weights.{weight_of}
use Rattle.tplan.specs.declared.plan.Plan.{Plan}
use Rattle.tagents.specs.Certificates.{IsReached, IsCompleted}
use Rattle.tprocesses.specs.Opening.{opening_state}
use Rattle.tprocesses.specs.Machine.{Agent, Wire, same_agent}
use Rattle.tprocesses.specs.Certified.{ProcessStep, machine_of, IsCertificate, KeptFlags}
use Rattle.tprocesses.proofs.Tidy.{certificates_tell_of_all_runs}
use Rattle.tseen.specs.Begun.{TellsRuns, HasFew}
use Rattle.tseen.specs.AgentSteps.{AgentMakes, HasStep, HandsNone, NothingStops}
use Rattle.tseen.proofs.After.{State}
use Rattle.tseen.proofs.Certified.{run_more, certified_runs_never_stop}
use Rattle.tseen.proofs.Grown.{kept_flags_throughout, runs_are_told}
use Rattle.tseen.proofs.Fewest.{few_throughout}
use Rattle.tplan.specs.declared.plan.End.{End}
use Rattle.tseen.specs.Carried.{handed}
use Rattle.tseen.proofs.Carrying.{silent, hands_none}

-- a run of the process machine leads there
abbrev pub IsComeTo : Plan → State → Type 0
IsComeTo p s = IsReached (machine_of p) (opening_state p) s

-- a step of an agent, and where it leads
pub record GoesOn (p : Plan) (a : Agent) (s : State) (r : IsComeTo p s) : Type 0 where
  pub state : State
  pub makes : AgentMakes p a s state
  pub reached : IsComeTo p state
  pub last : reached.steps ≡ r.steps ++ makes.label ∷ []
  pub longer : length reached.steps ≡ suc (length r.steps)

-- an agent that is no wire hands over nothing
pub hands_nothing : (p : Plan) (a : Agent) (s : State) (r : IsComeTo p s) (g : GoesOn p a s r) (e : End)
    → same_agent a (Wire e) ≡ false → handed p e g.reached.steps ≡ handed p e r.steps
hands_nothing p a s r g e other =
    ap (handed p e) g.last ∙ silent p e a s g.state g.makes r.steps other

-- nor do steps after which that holds already
pub nothing_more : (p : Plan) (a : Agent) (s : State) (r : IsComeTo p s) (g : GoesOn p a s r) (e : End)
    → same_agent a (Wire e) ≡ false → (before : List Store) → handed p e r.steps ≡ before
    → handed p e g.reached.steps ≡ before
nothing_more p a s r g e other before h = hands_nothing p a s r g e other ∙ h

-- nor does a wire that only makes a process go on
pub none_more : (p : Plan) (a : Agent) (s : State) (r : IsComeTo p s) (g : GoesOn p a s r) (e : End)
    → HandsNone g.makes → (before : List Store) → handed p e r.steps ≡ before
    → handed p e g.reached.steps ≡ before
none_more p a s r g e none before h =
    ap (handed p e) g.last ∙ hands_none p e a s g.state g.makes r.steps none ∙ h

-- a run went on while the net did, or it made steps of which only a limited number may come one after another
abbrev pub Progress : (p : Plan) (s s' : State) → IsComeTo p s → IsComeTo p s' → Configuration → Configuration → Type 0
Progress p s s' r r' c c' =
    (length r.steps < length r'.steps) ⊎ ((length r.steps ≤ length r'.steps) × (weight_of c' < weight_of c))

-- the flags are there that tell which priorities have run
pub told : (p : Plan) (s : State) → IsComeTo p s → (n : ℕ) → TellsRuns s n
told p s r n = runs_are_told p s r.steps r.run n

module _ (p : Plan) (steps : List ProcessStep) (end : State) (k : IsCertificate p steps end) where
  module _ (s : State) (r : IsComeTo p s) where
    pub never : NothingStops p s
    never = certified_runs_never_stop p steps r.steps end s k r.run

    rest : IsCompleted (machine_of p) r.steps s steps end
    rest = (certificates_tell_of_all_runs p steps end k).completed s r.steps r.run

    pub few : (n : ℕ) → HasFew s n
    few = few_throughout p steps r.steps end s k r.run

    pub kept : KeptFlags s
    kept = kept_flags_throughout p s end rest.rest rest.run k.flags

    -- an agent that has a step makes it
    pub on : (a : Agent) → HasStep p a s → GoesOn p a s r
    on a h =
        record {
          state = h.state;
          makes = record {
            label = h.label;
            agent = h.agent;
            step = h.step;
            goes_on = never a h.label h.state h.agent h.step;
          };
          reached = record {
            steps = r.steps ++ h.label ∷ [];
            run = run_more (machine_of p) r.steps h.label (opening_state p) s h.state r.run h.step;
          };
          last = refl;
          longer = omega (arith, length-append r.steps (h.label ∷ []));
        }
