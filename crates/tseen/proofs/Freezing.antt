-- The own step of a node breaks no rule.
use Rattle.std.proofs.Common.{◌≡◌, ℕ, zero, suc, ◌<◌, refl, sym, ap, subst, ◌∙◌, List, [], ◌∷◌, Bool, true, false}
use Rattle.std.proofs.Common.{true≢false, Result, Ok, Err, Option, Some, None, arith, inl, inr, ◌⊎◌}
use Rattle.std.specs.Prelude.{is_ok}
use Rattle.tword.specs.declared.breaks.Break.{Break}
use Rattle.tword.specs.declared.breaks.Break.TheVariants.{LengthMismatch}
use Rattle.tword.specs.Words.{plus}
use Rattle.tword.specs.Actions.{run_from}
use Rattle.tcode.specs.declared.instruction.Instruction.{Instruction}
use Rattle.tcode.specs.declared.instruction.Operation.{Operation}
use Rattle.tcode.specs.declared.instruction.Operation.TheVariants.{Alt, Enbc, Enbs, Altwt, Disc, Diss, Altend, Startp}
use Rattle.tcode.specs.declared.instruction.Operation.TheVariants.{Endp, Runp, Stopp, Stoperr, Ldpri, In}
use Rattle.tcode.specs.declared.instruction.Operation.TheVariants.{Out, Outbyte, Outword}
use Rattle.tcpu.specs.declared.registers.Next.{Next}
use Rattle.tcpu.specs.declared.registers.Next.TheVariants.{Go, Jumped, Schedule, Halt}
use Rattle.tproc.specs.declared.ran.Ran.{Ran}
use Rattle.tproc.specs.declared.ran.Ran.TheVariants as ran
use Rattle.tproc.specs.declared.waiter.Suspended.{Suspended}
use Rattle.tproc.specs.Machine.{Control, Machine, claims_of}
use Rattle.tproc.specs.Steps.{step, after}
use Rattle.tplan.specs.declared.plan.Plan.{Plan}
use Rattle.tnet.specs.Rendezvous.{Node, Configuration, node_of, IsMismatch}
use Rattle.treduction.specs.Plain.{rank}
use Rattle.tprocesses.specs.Places.{Name}
use Rattle.tprocesses.specs.Machine.{site_of}
use Rattle.tprocesses.specs.Instructions.{jumped}
use Rattle.tprocesses.specs.Scheduling.{schedules}
use Rattle.tseen.specs.Steps.{IsCurrent, Makes, LeadsTo, is_dispatching, next_of, yields}
use Rattle.tseen.specs.Begun.{TellsRuns, HasFew}
use Rattle.tseen.specs.Freezes.{BreaksNothing, StepsThatLeadBreakNothing, DispatchesBreakNothing}
use Rattle.tseen.specs.Freezes.{meets_others, InstructionsBreakNothing}
use Rattle.tseen.proofs.After.{State, After, after_all, after_step}
use Rattle.tseen.proofs.Stepped.{local_instructions_are_seen, there, step_then, next_is, one_next, step_is, left}
use Rattle.tseen.proofs.Scheduled.{go_not_scheduled, jumped_not_scheduled, one_operation}
use Rattle.tseen.proofs.Scheduled.{loaded_priorities_are_seen, unstopped_are_seen}
use Rattle.tseen.proofs.Jumps.{instructions_are_done, high_jumps_are_seen, go_not_jumped, scheduled_not_jumped}
use Rattle.tseen.proofs.Jumps.{runs_on_low}
use Rattle.tseen.proofs.YieldShown.{yields_are_seen}
use Rattle.tseen.proofs.Stops.{stops_are_seen}
use Rattle.tseen.proofs.Beginnings.{beginnings_are_seen}

-- a step that is done
abbrev IsDone : Machine → Type 0
IsDone m = (m' : Machine) × (r : Ran) × (step m ≡ Ok (m', r))

-- its node breaks nothing
pub done_breaks_nothing : (c : Configuration) (n : ℕ) (node : Node) → node_of c n ≡ Some node → IsDone node.machine
    → BreaksNothing c n
done_breaks_nothing c n node here done b c' f = by f.reason
  where
    same : {a d : Node} → Some a ≡ Some d → a ≡ d
    same e = cc

    not_both : {A : Type 0} (x : A) → ◌≡◌ {A = Result A Break} (Ok x) (Err b) → ⊥
    not_both x e = cc

    by : (step f.node.machine ≡ Err b) ⊎ ((b ≡ LengthMismatch) × IsMismatch c n) → IsMismatch c n
    by (inr e) = e.1
    by (inl e) =
        absurd (not_both (done.0, done.1)
        (sym done.2 ∙ ap (λ (z : Node). step z.machine) (same (sym here ∙ f.here)) ∙ e))

pub steps_that_lead_break_nothing : StepsThatLeadBreakNothing
steps_that_lead_break_nothing p c n s l =
    done_breaks_nothing c n l.local.node l.local.here (l.local.machine, l.local.ran, l.local.steps)

-- a dispatch is done
done_if : (m : Machine) (r : Result (Machine × Ran) Break) → step m ≡ r → is_ok r ≡ true → IsDone m
done_if m (Ok (m', ran)) e h = (m', ran, e)
done_if m (Err b) e h = absurd (true≢false (sym h))

dispatch_done : (m : Machine) → is_dispatching m.control.current m.control.high ≡ true → is_ok (step m) ≡ true
unfolding step
dispatch_done m h = by m.control.halted refl m.control.current refl m.control.high refl m.control.interrupted refl
    m.control.low refl h
  where
    by : (halted : Bool) → m.control.halted ≡ halted → (current : Option ℕ) → m.control.current ≡ current
        → (high : List ℕ) → m.control.high ≡ high → (interrupted : Option Suspended)
        → m.control.interrupted ≡ interrupted → (low : List ℕ) → m.control.low ≡ low
        → is_dispatching current high ≡ true → is_ok (step m) ≡ true
    by true e current f high g i j low l h = rw e refl
    by false e None f (w ∷ ws) g i j low l h = rw (e, f, g) refl
    by false e None f [] g (Some s) j low l h = rw (e, f, g, j) refl
    by false e None f [] g None j (w ∷ ws) l h = rw (e, f, g, j, l) refl
    by false e None f [] g None j [] l h = rw (e, f, g, j, l) refl
    by false e (Some zero) f high g i j low l h = absurd (true≢false (sym h))
    by false e (Some (suc level)) f [] g i j low l h = absurd (true≢false (sym h))
    by false e (Some (suc level)) f (w ∷ ws) g i j low l h = rw (e, f, g) refl

pub dispatches_break_nothing : DispatchesBreakNothing
dispatches_break_nothing c n node here h =
    done_breaks_nothing c n node here (done_if node.machine (step node.machine) refl (dispatch_done node.machine h))

module _ (p : Plan) (c : Configuration) (s s' : State) (n : ℕ) (x : Name) (k : IsCurrent p c s n x)
    (told : TellsRuns s n) (few : HasFew s' n) (makes : Makes p x s s') where
  abbrev m : Control
  m = k.node.machine.control

  leading : LeadsTo p c n s' → BreaksNothing c n
  leading l = steps_that_lead_break_nothing p c n s' l

  -- a jump of a low process that does not yield
  stays_low : next_of k.node.machine ≡ Some Jumped → (there p c s n x k).level ≡ 1 → yields m ≡ false
      → IsDone k.node.machine
  stays_low next low stays =
      after_step p x s s' (λ _ z. IsDone k.node.machine) makes (step_then p c s n x k (λ _ z. IsDone k.node.machine)
      (λ i decodes pp t. record {
        goes = λ d e u w.
            absurd (go_not_jumped (sym e ∙ one_next (sym (next_is p c s n x k i pp t decodes d) ∙ next)));
        schedules = λ d o e u w.
            absurd (scheduled_not_jumped o (sym e ∙ one_next (sym (next_is p c s n x k i pp t decodes d) ∙ next)));
        jumps = λ d e u mv f still.
            after_all (jumped (left p c s n x k i pp).priority (site_of n k.plan) x (left p c s n x k i pp)) u
            (λ _ z. IsDone k.node.machine) (λ y z.
            let r : (count : ℕ) × (run_from (after i.length 1 m d.after Jumped) k.node.machine.store (claims_of m)
            d.store' ≡ Ok ((record m { registers = d.after; count = count }, ran.Instruction), d.store')) =
            runs_on_low i.length m d.after k.node.machine.store d.store' (claims_of m) stays in (
              record { control = record m { registers = d.after; count = r.0 }; store = d.store' },
              ran.Instruction,
              step_is p c s n x k i pp t d (record m { registers = d.after; count = r.0 }) d.store' decodes
                  (subst (λ l. run_from (after i.length (rank l) m d.after d.next) k.node.machine.store (claims_of m)
                  d.store' ≡ Ok ((record m { registers = d.after; count = r.0 }, ran.Instruction), d.store')) (sym low)
                  (subst (λ z. run_from (after i.length 1 m d.after z) k.node.machine.store (claims_of m) d.store'
                  ≡ Ok ((record m { registers = d.after; count = r.0 }, ran.Instruction), d.store')) (sym e) r.1)),
            ));
      }))

  jump : next_of k.node.machine ≡ Some Jumped → BreaksNothing c n
  jump next = by (there p c s n x k).level (there p c s n x k).current refl (there p c s n x k).small
    where
      low : (there p c s n x k).level ≡ 1 → m.current ≡ Some 1 → (b : Bool) → yields m ≡ b → BreaksNothing c n
      low e f true h = leading (yields_are_seen p c s s' n x k next f h makes)
      low e f false h = done_breaks_nothing c n k.node k.here (stays_low next e h)

      by : (level : ℕ) → m.current ≡ Some level → (there p c s n x k).level ≡ level → level < 2 → BreaksNothing c n
      by zero e f h = leading (high_jumps_are_seen p c s s' n x k next e makes)
      by (suc zero) e f h = low f e (yields m) refl
      by (suc (suc j)) e f h = absurd (omega (arith, h))

  -- an operation that each step of its process would stop at
  abbrev Stuck : Operation → Type 0
  Stuck o =
      (u : State) (i : Instruction) → After (schedules o (site_of n k.plan) x (record (there p c s n x k).context {
        iptr = plus (there p c s n x k).context.iptr i.length;
      })) u (λ _ z. BreaksNothing c n)

  never : (o : Operation) → next_of k.node.machine ≡ Some (Schedule o) → Stuck o → BreaksNothing c n
  never o next stuck =
      after_step p x s s' (λ _ z. BreaksNothing c n) makes (step_then p c s n x k (λ _ z. BreaksNothing c n)
      (λ i decodes pp t. record {
        goes = λ d e u w.
            absurd (go_not_scheduled o (sym e ∙ one_next (sym (next_is p c s n x k i pp t decodes d) ∙ next)));
        jumps = λ d e u w f still.
            absurd (jumped_not_scheduled o (sym e ∙ one_next (sym (next_is p c s n x k i pp t decodes d) ∙ next)));
        schedules = λ d o' e u w.
            subst (λ z. After (schedules z (site_of n k.plan) x (record (there p c s n x k).context {
              iptr = plus (there p c s n x k).context.iptr i.length;
            })) u (λ _ z. BreaksNothing c n))
            (sym (one_operation (sym e ∙ one_next (sym (next_is p c s n x k i pp t decodes d) ∙ next))))
            (stuck u i);
      }))

  operation : (o : Operation) → next_of k.node.machine ≡ Some (Schedule o) → meets_others (Schedule o) ≡ false
      → BreaksNothing c n
  operation Startp next h = leading (beginnings_are_seen p c s s' n x Startp k next refl told few makes)
  operation Runp next h = leading (beginnings_are_seen p c s s' n x Runp k next refl told few makes)
  operation Ldpri next h = leading (loaded_priorities_are_seen p c s s' n x k next makes)
  operation Stopp next h = leading (stops_are_seen p c s s' n x Stopp k next refl makes)
  operation Stoperr next h = by m.registers.error refl
    where
      by : (b : Bool) → m.registers.error ≡ b → BreaksNothing c n
      by true e = leading (stops_are_seen p c s s' n x Stoperr k next e makes)
      by false e = leading (unstopped_are_seen p c s s' n x k next e makes)
  operation Endp next h = absurd (true≢false h)
  operation In next h = absurd (true≢false h)
  operation Out next h = absurd (true≢false h)
  operation Outbyte next h = absurd (true≢false h)
  operation Outword next h = absurd (true≢false h)
  operation Alt next h = absurd (true≢false h)
  operation Enbc next h = absurd (true≢false h)
  operation Enbs next h = absurd (true≢false h)
  operation Altwt next h = absurd (true≢false h)
  operation Disc next h = absurd (true≢false h)
  operation Diss next h = absurd (true≢false h)
  operation Altend next h = absurd (true≢false h)
  operation o next h = never o next (λ u i. tt)

  pub breaks_nothing : (next : Next) → next_of k.node.machine ≡ Some next → meets_others next ≡ false
      → BreaksNothing c n
  breaks_nothing Go next h = leading (local_instructions_are_seen p c s s' n x k next makes)
  breaks_nothing Jumped next h = jump next
  breaks_nothing (Schedule o) next h = operation o next h
  breaks_nothing Halt next h =
      let done = instructions_are_done p c s s' n x k makes in
      absurd (done.2 (one_next (sym done.1 ∙ next)))

pub instructions_break_nothing : InstructionsBreakNothing
instructions_break_nothing p c s s' n x next k is others told few makes =
    breaks_nothing p c s s' n x k told few makes next is others
