-- Where the rendezvous machine makes several steps at once, the steps that follow the first are there.
use Rattle.std.proofs.Common.{◌≡◌, ℕ, refl, sym, subst, ◌∙◌, Some}
use Rattle.tcpu.specs.declared.registers.Next.TheVariants.{Jumped}
use Rattle.tplan.specs.declared.plan.Plan.{Plan}
use Rattle.tnet.specs.Rendezvous.{Configuration}
use Rattle.tprocesses.specs.Places.{Name, Standing}
use Rattle.tprocesses.specs.Values.{Context, Rests, IsStand}
use Rattle.tprocesses.specs.Standing.{forget}
use Rattle.tprocesses.specs.Touching.{save, kept}
use Rattle.tprocesses.specs.Instructions.{jumped}
use Rattle.tprocesses.specs.Machine.{Process, site_of}
use Rattle.tseen.specs.Steps.{IsCurrent, Makes, next_of}
use Rattle.tseen.specs.AgentSteps.{HasStep}
use Rattle.tseen.proofs.After.{State, After, after_bind, after_all, after_step}
use Rattle.tseen.proofs.Finished.{stands_then}
use Rattle.tseen.proofs.Stepped.{there, step_then, next_is, left, one_next}
use Rattle.tseen.proofs.Jumps.{go_not_jumped, scheduled_not_jumped, same_level}
use Rattle.tseen.proofs.Due.{process_due}

-- a low process rests after a jump
abbrev RestsAt : Name → State → Type 0
RestsAt x z = (d : Context) × (z (Standing x) ≡ IsStand (Rests d))

low_rests : (p : Plan) (c : Configuration) (s s' : State) (n : ℕ) (x : Name) → (k : IsCurrent p c s n x)
    → next_of k.node.machine ≡ Some Jumped → k.node.machine.control.current ≡ Some 1 → Makes p x s s' → RestsAt x s'
low_rests p c s s' n x k next low makes =
    after_step p x s s' (λ _ z. RestsAt x z) makes (step_then p c s n x k (λ _ z. RestsAt x z)
    (λ i decodes pp t. record {
      goes = λ d e u w. absurd (go_not_jumped (sym e ∙ one_next (sym (next_is p c s n x k i pp t decodes d) ∙ next)));
      schedules = λ d o e u w.
          absurd (scheduled_not_jumped o (sym e ∙ one_next (sym (next_is p c s n x k i pp t decodes d) ∙ next)));
      jumps = λ d e u m f still.
          subst (λ q. After (jumped q (site_of n k.plan) x (left p c s n x k i pp)) u (λ _ z. RestsAt x z))
          (sym (d.knows.priority ∙ level))
          (after_bind (save (site_of n k.plan) (left p c s n x k i pp).wptr kept) _ u (λ _ z. RestsAt x z)
          (after_all (save (site_of n k.plan) (left p c s n x k i pp).wptr kept) u _ (λ y v.
          stands_then (site_of n k.plan) p x (Rests (forget (left p c s n x k i pp))) v (λ _ z. RestsAt x z)
          (λ z rests. (forget (left p c s n x k i pp), rests.is)))));
    }))
  where
    level : (there p c s n x k).level ≡ 1
    level = same_level (sym (there p c s n x k).current ∙ low)

-- so it goes on
pub low_jump_due : (p : Plan) (c : Configuration) (s s' : State) (n : ℕ) (x : Name) → (k : IsCurrent p c s n x)
    → next_of k.node.machine ≡ Some Jumped → k.node.machine.control.current ≡ Some 1 → Makes p x s s'
    → HasStep p (Process x) s'
low_jump_due p c s s' n x k next low makes =
    let r : RestsAt x s' = low_rests p c s s' n x k next low makes in
    process_due p x s' (Rests r.0) r.1 refl
