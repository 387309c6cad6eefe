-- Operations of the scheduler after which the process goes on, and which change no queue.
use Rattle.std.proofs.lemmas.Bool.{or_right, eq-eqb}
use Rattle.std.proofs.Common.{true}
use Rattle.std.specs.Prelude.{◌==◌}
use Rattle.std.proofs.Common.{◌||◌}
use Rattle.std.proofs.Common.{is_none}
use Rattle.std.proofs.Common.{◌≡◌, ℕ, zero, suc, ◌<◌, refl, sym, ap, subst, ◌∙◌, false, Ok, Some, arith, inr}
use Rattle.std.specs.Prelude.{if◌then◌else◌}
use Rattle.tword.specs.declared.kind.Kind.{Kind}
use Rattle.tword.specs.Words.{plus}
use Rattle.tword.specs.Stores.{Store}
use Rattle.tword.specs.Claims.{Claims}
use Rattle.tword.specs.Actions.{run}
use Rattle.tcode.specs.declared.instruction.Operation.{Operation}
use Rattle.tcode.specs.declared.instruction.Operation.TheVariants.{Ldpri, Stoperr}
use Rattle.tcode.specs.declared.instruction.Instruction.{Instruction}
use Rattle.tcode.specs.Decoding.{decode}
use Rattle.tcpu.specs.declared.registers.Registers.{Registers}
use Rattle.tcpu.specs.declared.registers.Next.TheVariants.{Go, Jumped, Schedule}
use Rattle.tcpu.specs.Outcomes.{Outcome, push}
use Rattle.tcpu.specs.Effects.{effect}
use Rattle.tcpu.proofs.Quiet.{stands_at}
use Rattle.tproc.specs.Machine.{Control, claims_of}
use Rattle.tproc.specs.Scheduler.{operation_step, raised}
use Rattle.tplan.specs.declared.plan.Plan.{Plan}
use Rattle.tnet.specs.Rendezvous.{Configuration}
use Rattle.treduction.specs.Plain.{rank}
use Rattle.tprocesses.specs.Places.{Name, Error, HaltOnError}
use Rattle.tprocesses.specs.Values.{Value, Context, Runs, IsFlag, flag_in}
use Rattle.tprocesses.specs.Performing.{Performed}
use Rattle.tprocesses.specs.Touching.{Site}
use Rattle.tprocesses.specs.Standing.{goes_on, push as push_context}
use Rattle.tprocesses.specs.Scheduling.{schedules, stops_itself}
use Rattle.tprocesses.specs.Machine.{site_of}
use Rattle.tseen.specs.Known.{HasRegisters}
use Rattle.tseen.specs.Steps.{IsCurrent, LeadsTo, LoadedPrioritiesAreSeen, UnstoppedAreSeen}
use Rattle.tseen.proofs.After.{State, After, after_step}
use Rattle.tseen.proofs.Finished.{IsFlagged, HasMoved, StandsNow, stands_then}
use Rattle.tseen.proofs.Completed.{went}
use Rattle.tseen.proofs.Running.{RunsThere}
use Rattle.tseen.proofs.Stepped.{there, step_then, Executed, does, next_is, one_next, leads, step_is}

-- what is left to the scheduler has changed nothing
pub left_alone : (kind : Kind) (i : Instruction) (r r' : Registers) (c : Claims) (s s' : Store) (o : Operation)
    → run (effect kind i r) s c ≡ Ok ((r', Schedule o), s') → (s' ≡ s) × (r' ≡ r)
unfolding effect
left_alone kind i r r' c s s' o e =
    stands_at kind i.function i.operand r (record r { iptr = plus r.iptr i.length }) r' c s s' (Schedule o) refl e

pub go_not_scheduled : (o : Operation) → Go ≡ Schedule o → ⊥
go_not_scheduled o e = cc

pub jumped_not_scheduled : (o : Operation) → Jumped ≡ Schedule o → ⊥
jumped_not_scheduled o e = cc

pub one_operation : {a b : Operation} → Schedule a ≡ Schedule b → a ≡ b
one_operation e = cc

module _ (p : Plan) (c : Configuration) (s : State) (n : ℕ) (x : Name) (k : IsCurrent p c s n x) (i : Instruction)
    (decodes : run (decode k.node.machine.control.kind k.node.machine.control.registers.iptr) k.node.machine.store
    (claims_of k.node.machine.control) ≡ Ok (i, k.node.machine.store)) (pp : Performed Outcome) (t : State)
    (d : Executed p c s n x k i pp t) (o : Operation) (is : d.next ≡ Schedule o) where
  abbrev m : Control
  m = k.node.machine.control

  abbrev site : Site
  site = site_of n k.plan

  abbrev running : RunsThere s n k.plan k.node x
  running = there p c s n x k

  pub unchanged : d.after ≡ m.registers
  unchanged =
      (left_alone m.kind i m.registers d.after (claims_of m) k.node.machine.store d.store' o
      (subst (λ z. run (effect m.kind i m.registers) k.node.machine.store (claims_of m)
      ≡ Ok ((d.after, z), d.store')) is
      (does p c s n x k i pp t d))).1

  pub store_unchanged : d.store' ≡ k.node.machine.store
  store_unchanged =
      (left_alone m.kind i m.registers d.after (claims_of m) k.node.machine.store d.store' o
      (subst (λ z. run (effect m.kind i m.registers) k.node.machine.store (claims_of m)
      ≡ Ok ((d.after, z), d.store')) is
      (does p c s n x k i pp t d))).0

  -- the registers and the context at the operation
  abbrev pub at_operation : Registers
  at_operation = record d.after { iptr = plus d.after.iptr i.length }

  abbrev pub context_there : Context
  context_there = record running.context { iptr = plus running.context.iptr i.length }

  pub registers_there : HasRegisters running.level at_operation context_there
  registers_there =
      let h : HasRegisters running.level d.after running.context =
      subst (λ (r : Registers). HasRegisters running.level r running.context) (sym unchanged) running.registers in
      record {
        priority = h.priority;
        wptr = h.wptr;
        iptr = ap (λ z. plus z i.length) h.iptr;
        a = h.a;
        b = h.b;
        c = h.c;
        nothing_lent = h.nothing_lent;
      }

  -- the flags after the effect
  pub flags_there : IsFlagged n at_operation.error at_operation.halt_on_error t t
  flags_there =
      record {
        error = d.on.keeps.others (Error n) refl ∙ running.flags.error
            ∙ ap (λ (r : Registers). IsFlag r.error) (sym unchanged);
        halting = d.on.keeps.others (HaltOnError n) refl ∙ running.flags.halting
            ∙ ap (λ (r : Registers). IsFlag r.halt_on_error) (sym unchanged);
        others = λ q h. refl;
        noted = inr (refl, refl);
      }

  -- the operation on the control
  abbrev pub control_there : ℕ → Control
  control_there count = record m { registers = at_operation; count = count }

  -- the workspace stays
  pub same_workspace : (is_none running.context.choice || (running.context.wptr == d.after.wptr)) ≡ true
  same_workspace =
      or_right (is_none running.context.choice) (running.context.wptr == d.after.wptr)
      (eq-eqb running.context.wptr d.after.wptr registers_there.wptr)

  module _ (u v : State) (moved_on : HasMoved site running.context.wptr d.after.wptr t u) where
    -- `ldpri`
    pub priority_loaded : o ≡ Ldpri
        → StandsNow site x (Runs (push_context (Some running.context.priority) context_there)) u v
        → LeadsTo p c n v
    unfolding operation_step
    priority_loaded e stands =
        leads p c s n x k (push (rank running.level) at_operation) d.store'
        (raised (rank running.level) m.count m.timeslice) v t
        (step_is p c s n x k i pp t d (record (control_there (raised (rank running.level) m.count m.timeslice)) {
          registers = push (rank running.level) at_operation;
        }) d.store' decodes (rw (is, e) refl)) d.on (push_context (Some running.context.priority) context_there)
        (record {
          priority = registers_there.priority;
          wptr = registers_there.wptr;
          iptr = registers_there.iptr;
          a = registers_there.priority ∙ same_rank running.level running.small;
          b = registers_there.a;
          c = registers_there.b;
          nothing_lent = registers_there.nothing_lent;
        }) refl
        (went site x running.context.wptr (push (rank running.level) at_operation)
        (push_context (Some running.context.priority) context_there) t t u v flags_there moved_on stands
        same_workspace)
      where
        same_rank : (level : ℕ) → level < 2 → level ≡ rank level
        same_rank zero h = refl
        same_rank (suc zero) h = refl
        same_rank (suc (suc j)) h = absurd (omega arith)

    -- `stoperr` with Error clear
    pub not_stopped : o ≡ Stoperr → m.registers.error ≡ false → StandsNow site x (Runs context_there) u v
        → LeadsTo p c n v
    unfolding operation_step
    not_stopped e clear stands =
        leads p c s n x k at_operation d.store' (raised (rank running.level) m.count m.timeslice) v t
        (step_is p c s n x k i pp t d (control_there (raised (rank running.level) m.count m.timeslice)) d.store' decodes
        (let f : d.after.error ≡ false = ap (λ (r : Registers). r.error) unchanged ∙ clear in rw (is, e, f) refl)) d.on
        context_there registers_there refl
        (went site x running.context.wptr at_operation context_there t t u v flags_there moved_on stands
        same_workspace)

-- `ldpri` is seen
pub loaded_priorities_are_seen : LoadedPrioritiesAreSeen
loaded_priorities_are_seen p c s s' n x k next makes =
    after_step p x s s' (λ _ z. LeadsTo p c n z) makes (step_then p c s n x k (λ _ z. LeadsTo p c n z)
    (λ i decodes pp t. record {
      goes = λ d e u w.
          absurd (go_not_scheduled Ldpri (sym e ∙ one_next (sym (next_is p c s n x k i pp t decodes d) ∙ next)));
      jumps = λ d e u m f still.
          absurd (jumped_not_scheduled Ldpri (sym e ∙ one_next (sym (next_is p c s n x k i pp t decodes d) ∙ next)));
      schedules = λ d o e u m.
          let is : o ≡ Ldpri =
          one_operation (sym e ∙ one_next (sym (next_is p c s n x k i pp t decodes d) ∙ next)) in
          subst (λ z. After (schedules z (site_of n k.plan) x (context_there p c s n x k i decodes pp t d o e)) u
          (λ _ z. LeadsTo p c n z)) (sym is)
          (stands_then (site_of n k.plan) p x (Runs (push_context (Some (there p c s n x k).context.priority)
          (context_there p c s n x k i decodes pp t d o e))) u (λ _ z. LeadsTo p c n z) (λ v h.
          priority_loaded p c s n x k i decodes pp t d o e u v m is h));
    }))

-- `stoperr` with Error clear is seen
pub unstopped_are_seen : UnstoppedAreSeen
unstopped_are_seen p c s s' n x k next clear makes =
    after_step p x s s' (λ _ z. LeadsTo p c n z) makes (step_then p c s n x k (λ _ z. LeadsTo p c n z)
    (λ i decodes pp t. record {
      goes = λ d e u w.
          absurd (go_not_scheduled Stoperr (sym e ∙ one_next (sym (next_is p c s n x k i pp t decodes d) ∙ next)));
      jumps = λ d e u m f still.
          absurd (jumped_not_scheduled Stoperr (sym e ∙ one_next (sym (next_is p c s n x k i pp t decodes d) ∙ next)));
      schedules = λ d o e u m.
          let is : o ≡ Stoperr =
          one_operation (sym e ∙ one_next (sym (next_is p c s n x k i pp t decodes d) ∙ next)) in
          let after : Context = context_there p c s n x k i decodes pp t d o e in
          let error : u (Error n) ≡ IsFlag false =
          m.others (Error n) refl ∙ d.on.keeps.others (Error n) refl
          ∙ (there p c s n x k).flags.error ∙ ap IsFlag clear in
          subst (λ z. After (schedules z (site_of n k.plan) x after) u (λ _ z. LeadsTo p c n z)) (sym is)
          (subst (λ (f : Value). After
          (if flag_in f then stops_itself (site_of n k.plan) x after else goes_on x after) u
          (λ _ z. LeadsTo p c n z)) (sym error)
          (stands_then (site_of n k.plan) p x (Runs after) u (λ _ z. LeadsTo p c n z) (λ v h.
          not_stopped p c s n x k i decodes pp t d o e u v m is clear h)));
    }))
