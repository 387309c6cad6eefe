-- Wherever a run of a plan with a certificate leads, no more processes live at a node than may.
use Rattle.std.proofs.Common.{refl, List, [], ◌∷◌, ◌++◌, arith}
use Rattle.tplan.specs.declared.plan.Plan.{Plan}
use Rattle.tagents.specs.Agents.{IsRun}
use Rattle.tagents.specs.Races.{TakesNothing}
use Rattle.tprocesses.specs.Opening.{opening_state}
use Rattle.tprocesses.specs.Certified.{ProcessStep, machine_of, IsCertificate}
use Rattle.tprocesses.proofs.Living.{living_are_counted}
use Rattle.tseen.specs.Throughout.{FewThroughout}
use Rattle.tseen.proofs.After.{State}
use Rattle.tseen.proofs.Certified.{run_more, certified_runs_never_stop}

module _ (p : Plan) (steps : List ProcessStep) (end : State) (k : IsCertificate p steps end) where
  -- no step of such a run stops
  goes_on : (before after : List ProcessStep) (mid s : State) → IsRun (machine_of p) (opening_state p) before mid
      → IsRun (machine_of p) mid after s → TakesNothing (machine_of p) after
  goes_on before [] mid s first rest = tt
  goes_on before (e ∷ es) mid s first rest = (
    certified_runs_never_stop p steps before end mid k first e.agent e rest.0 refl rest.1,
    goes_on (before ++ e ∷ []) es rest.0 s (run_more (machine_of p) before e (opening_state p) mid rest.0 first rest.1)
        rest.2,
  )

pub few_throughout : FewThroughout
few_throughout p steps others end s k run n workspaces lives =
    let counted = living_are_counted p n others s workspaces run
    (goes_on p steps end k [] others (opening_state p) s refl run) lives in
    omega (arith, counted, k.few n others s run)
