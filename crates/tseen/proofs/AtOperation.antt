-- A process comes to an operation of the scheduler: nothing has changed but Iptr.
use Rattle.std.proofs.Common.{◌≡◌, ℕ, refl, sym, ap, subst, ◌∙◌, Ok, Some, Bool, true, false}
use Rattle.std.specs.Prelude.{◌==◌}
use Rattle.std.proofs.lemmas.Bool.{eq-eqb, eqb-true}
use Rattle.tword.specs.Words.{plus}
use Rattle.tword.specs.Stores.{Store}
use Rattle.tword.specs.Claims.{Claims}
use Rattle.tword.specs.Actions.{run, run_from}
use Rattle.tcode.specs.declared.instruction.Operation.{Operation}
use Rattle.tcode.specs.declared.instruction.Instruction.{Instruction}
use Rattle.tcode.specs.Decoding.{decode}
use Rattle.tcpu.specs.declared.registers.Registers.{Registers}
use Rattle.tcpu.specs.declared.registers.Next.{Next}
use Rattle.tcpu.specs.declared.registers.Next.TheVariants.{Schedule}
use Rattle.tcpu.specs.Outcomes.{Outcome}
use Rattle.tcpu.specs.Effects.{effect}
use Rattle.tproc.specs.declared.ran.Ran.TheVariants as ran
use Rattle.tproc.specs.Machine.{Control, claims_of}
use Rattle.tproc.specs.Scheduler.{operation_step, counted_by}
use Rattle.tproc.specs.Steps.{step, after}
use Rattle.tplan.specs.declared.plan.Plan.{Plan}
use Rattle.tnet.specs.Rendezvous.{Configuration}
use Rattle.treduction.specs.Plain.{rank}
use Rattle.tprocesses.specs.Places.{Place, Name, Life}
use Rattle.tprocesses.specs.Values.{Context}
use Rattle.tprocesses.specs.Performing.{Performed}
use Rattle.tprocesses.specs.Scheduling.{schedules}
use Rattle.tprocesses.specs.Touching.{Site}
use Rattle.tprocesses.specs.Machine.{Process, site_of, step_of}
use Rattle.tseen.specs.Steps.{IsCurrent, next_of}
use Rattle.tseen.proofs.After.{State, After}
use Rattle.tseen.proofs.Stored.{GoesOn}
use Rattle.tseen.proofs.Finished.{HasMoved}
use Rattle.tseen.proofs.Running.{RunsThere}
use Rattle.tseen.proofs.Stepped.{there, step_then, Executed, does, next_is, one_next, step_is}
use Rattle.tseen.proofs.Scheduled.{left_alone, unchanged, go_not_scheduled, jumped_not_scheduled, one_operation}

module _ (p : Plan) (c : Configuration) (s : State) (n : ℕ) (x : Name) (k : IsCurrent p c s n x) where
  abbrev m : Control
  m = k.node.machine.control

  abbrev store : Store
  store = k.node.machine.store

  abbrev claims : Claims
  claims = claims_of m

  abbrev site : Site
  site = site_of n k.plan

  abbrev running : RunsThere s n k.plan k.node x
  running = there p c s n x k

  -- the registers and the context behind an instruction of this length
  abbrev pub registers_at : ℕ → Registers
  registers_at size = record m.registers { iptr = plus m.registers.iptr size }

  abbrev pub context_at : ℕ → Context
  context_at size = record running.context { wptr = m.registers.wptr; iptr = plus m.registers.iptr size }

  same_context : (size : ℕ) → record running.context { iptr = plus running.context.iptr size } ≡ context_at size
  same_context size =
      λ j. record running.context { wptr = running.registers.wptr j; iptr = plus (running.registers.iptr j) size }

  -- the control at an operation
  abbrev pub control_at : Operation → ℕ → Control
  control_at o size = counted_by o (rank running.level) (record m { registers = registers_at size })

  -- the process is at an operation, and what the operation does is what the processor does
  pub record IsAtOperation (o : Operation) (u : State) : Type 0 where
    pub size : ℕ
    pub on : GoesOn n k.plan.memory s u store store
    pub steps : (control : Control) (last : Store)
        → run_from (operation_step o (rank running.level) (control_at o size)) store claims store
        ≡ Ok ((control, ran.Instruction), last)
        → step k.node.machine ≡ Ok (record { control = control; store = last }, ran.Instruction)

  module _ (i : Instruction) (decodes : run (decode m.kind m.registers.iptr) store claims ≡ Ok (i, store))
      (pp : Performed Outcome) (t : State) (d : Executed p c s n x k i pp t) (o : Operation) (is : d.next ≡ Schedule o)
      (u : State) (moved_on : HasMoved site running.context.wptr d.after.wptr t u) where
    same_registers : d.after ≡ m.registers
    same_registers = unchanged p c s n x k i decodes pp t d o is

    same_store : d.store' ≡ store
    same_store =
        (left_alone m.kind i m.registers d.after claims store d.store' o
        (subst (λ z. run (effect m.kind i m.registers) store claims ≡ Ok ((d.after, z), d.store')) is
        (does p c s n x k i pp t d))).0

    same_place_there : (q : Place) → u q ≡ t q
    same_place_there (Life a w) = by (n == a) refl
      where
        by : (b : Bool) → (n == a) ≡ b → u (Life a w) ≡ t (Life a w)
        by false e = moved_on.others (Life a w) e
        by true e =
            subst (λ j. u (Life j w) ≡ t (Life j w)) (eqb-true _ _ e)
            (moved_on.lives w ∙ rw (eq-eqb running.context.wptr d.after.wptr
            (running.registers.wptr ∙ ap (λ (r : Registers). r.wptr) (sym same_registers))) refl)
    same_place_there _ = moved_on.others _ refl

    pub is_at : IsAtOperation o u
    is_at =
        record {
          size = i.length;
          on = subst (λ (z : State). GoesOn n k.plan.memory s z store store) (sym (λ j q. same_place_there q j))
              (subst (λ (z : Store). GoesOn n k.plan.memory s t store z) same_store d.on);
          steps = λ control last e.
              step_is p c s n x k i pp t d control last decodes
              (subst (λ (z : Store). run_from (after i.length (rank running.level) m d.after d.next) store claims z
              ≡ Ok ((control, ran.Instruction), last)) (sym same_store)
              (subst (λ (r : Registers). run_from (after i.length (rank running.level) m r d.next) store claims store
              ≡ Ok ((control, ran.Instruction), last)) (sym same_registers)
              (subst (λ (z : Next). run_from (after i.length (rank running.level) m m.registers z) store claims store
              ≡ Ok ((control, ran.Instruction), last)) (sym is) e)));
        }

  -- the step of a process whose instruction is an operation
  pub operation_then : (o : Operation) (Q : Unit {0} → State → Type 0) → next_of k.node.machine ≡ Some (Schedule o)
      → ((u : State) (a : IsAtOperation o u) → After (schedules o site x (context_at a.size)) u Q)
      → After (step_of p (Process x)) s Q
  unfolding is_at
  operation_then o Q next h =
      step_then p c s n x k Q (λ i decodes pp t. record {
        goes = λ d e u w.
            absurd (go_not_scheduled o (sym e ∙ one_next (sym (next_is p c s n x k i pp t decodes d) ∙ next)));
        jumps = λ d e u m f still.
            absurd (jumped_not_scheduled o (sym e ∙ one_next (sym (next_is p c s n x k i pp t decodes d) ∙ next)));
        schedules = λ d o' e u moved_on.
            let same : o' ≡ o = one_operation (sym e ∙ one_next (sym (next_is p c s n x k i pp t decodes d) ∙ next)) in
            let there : d.next ≡ Schedule o = e ∙ ap Schedule same in
            subst (λ z. After (schedules z site x (record running.context {
              iptr = plus running.context.iptr i.length;
            })) u Q) (sym same)
            (subst (λ (z : Context). After (schedules o site x z) u Q) (sym (same_context i.length))
            (h u (is_at i decodes pp t d o there u moved_on)));
      })
