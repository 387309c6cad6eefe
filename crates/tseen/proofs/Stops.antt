-- Operations that end their process are seen.
use Rattle.tseen.proofs.Choices.{none_is}
use Rattle.std.proofs.Common.{◌≡◌, ℕ, refl, sym, ap, subst, ◌∙◌, true, true≢false, Ok}
use Rattle.std.specs.Prelude.{is_none, negsuc, if◌then◌else◌}
use Rattle.std.specs.Int.{w32, to_le_bytes}
use Rattle.tword.specs.Words.{word_below}
use Rattle.tword.specs.Stores.{as_cells}
use Rattle.tword.specs.Actions.{run}
use Rattle.tcode.specs.declared.instruction.Operation.{Operation}
use Rattle.tcode.specs.declared.instruction.Operation.TheVariants.{Stoperr, Stopp}
use Rattle.tcode.specs.declared.instruction.Instruction.{Instruction}
use Rattle.tcode.specs.Decoding.{decode}
use Rattle.tcpu.specs.declared.registers.Next.TheVariants.{Schedule}
use Rattle.tcpu.specs.Outcomes.{Outcome}
use Rattle.tproc.specs.Machine.{claims_of}
use Rattle.tplan.specs.declared.plan.Plan.{Plan}
use Rattle.tnet.specs.Rendezvous.{Configuration}
use Rattle.tprocesses.specs.Places.{Name, Error, Life}
use Rattle.tprocesses.specs.Values.{Value, Context, Ended, IsFlag, flag_in}
use Rattle.tprocesses.specs.Changes.{Add}
use Rattle.tprocesses.specs.Parts.{require, WordInUse}
use Rattle.tprocesses.specs.Performing.{Performed}
use Rattle.tprocesses.specs.Touching.{Site, write_word_at}
use Rattle.tprocesses.specs.Standing.{goes_on}
use Rattle.tprocesses.specs.Scheduling.{schedules, stops_itself}
use Rattle.tprocesses.specs.Machine.{site_of}
use Rattle.tseen.specs.Steps.{IsCurrent, LeadsTo, stops_process, StopsAreSeen}
use Rattle.tseen.proofs.After.{after_require, State, changed, After, after_bind, after_step}
use Rattle.tseen.proofs.Writing.{IsWordWritten, write_word_at_then}
use Rattle.tseen.proofs.Finished.{HasMoved, StandsNow, stands_then}
use Rattle.tseen.proofs.Stepped.{there, step_then, Executed, next_is, one_next}
use Rattle.tseen.proofs.Scheduled.{go_not_scheduled, jumped_not_scheduled, one_operation, context_there}
use Rattle.tseen.proofs.Scheduled.{registers_there}
use Rattle.tseen.proofs.Stopping.{stop_leads}

module _ (p : Plan) (c : Configuration) (s : State) (n : ℕ) (x : Name) (k : IsCurrent p c s n x) (i : Instruction)
    (decodes : run (decode k.node.machine.control.kind k.node.machine.control.registers.iptr) k.node.machine.store
    (claims_of k.node.machine.control) ≡ Ok (i, k.node.machine.store)) (pp : Performed Outcome) (t : State)
    (d : Executed p c s n x k i pp t) (o : Operation) (is : d.next ≡ Schedule o)
    (stops : stops_process k.node.machine.control.registers o ≡ true) (u : State)
    (moved_on : HasMoved (site_of n k.plan) (there p c s n x k).context.wptr d.after.wptr t u) where
  abbrev site : Site
  site = site_of n k.plan

  abbrev context : Context
  context = context_there p c s n x k i decodes pp t d o is

  abbrev Leads : Unit {0} → State → Type 0
  Leads _ z = LeadsTo p c n z

  -- the process writes its Iptr and ends
  stops_then : After (stops_itself site x context) u Leads
  stops_then =
      after_bind (write_word_at site (word_below context.wptr 1) (as_cells (to_le_bytes w32 context.iptr))) _ u Leads
      (write_word_at_then site (there p c s n x k).whole (word_below context.wptr 1)
      (as_cells (to_le_bytes w32 context.iptr)) u _ refl (λ v written.
      after_bind (require (is_none context.choice) WordInUse) _ v Leads
      (after_require (is_none context.choice) WordInUse v _ (λ none.
      stands_then site p x Ended (changed (Life n context.wptr) (Add (negsuc 0)) v) Leads (λ s' ended.
      stop_leads p c s n x k i decodes pp t d o is stops u v s' moved_on (none_is context.choice none)
      (subst (λ w. IsWordWritten site (there p c s n x k).whole u v (word_below w 1)
      (as_cells (to_le_bytes w32 context.iptr))) same written)
      (subst (λ w. StandsNow site x Ended (changed (Life n w) (Add (negsuc 0)) v) s') same ended))))))
    where
      same : context.wptr ≡ d.after.wptr
      same = (registers_there p c s n x k i decodes pp t d o is).wptr

  -- by the operation
  pub operation_then : After (schedules o site x context) u Leads
  operation_then = by o refl stops
    where
      by : (o' : Operation) → o ≡ o' → stops_process k.node.machine.control.registers o' ≡ true
          → After (schedules o site x context) u Leads
      by Stopp e h = subst (λ z. After (schedules z site x context) u Leads) (sym e) stops_then
      by Stoperr e h =
          let error : u (Error n) ≡ IsFlag true =
          moved_on.others (Error n) refl ∙ d.on.keeps.others (Error n) refl ∙ (there p c s n x k).flags.error
          ∙ ap IsFlag h in
          subst (λ z. After (schedules z site x context) u Leads) (sym e)
          (subst (λ (f : Value). After (if flag_in f then stops_itself site x context else goes_on x context) u Leads)
          (sym error) stops_then)
      by _ e h = absurd (true≢false (sym h))

pub stops_are_seen : StopsAreSeen
stops_are_seen p c s s' n x o k next stops makes =
    after_step p x s s' (λ _ z. LeadsTo p c n z) makes (step_then p c s n x k (λ _ z. LeadsTo p c n z)
    (λ i decodes pp t. record {
      goes = λ d e u w.
          absurd (go_not_scheduled o (sym e ∙ one_next (sym (next_is p c s n x k i pp t decodes d) ∙ next)));
      jumps = λ d e u m f still.
          absurd (jumped_not_scheduled o (sym e ∙ one_next (sym (next_is p c s n x k i pp t decodes d) ∙ next)));
      schedules = λ d o' e u m.
          let same : o' ≡ o = one_operation (sym e ∙ one_next (sym (next_is p c s n x k i pp t decodes d) ∙ next)) in
          operation_then p c s n x k i decodes pp t d o' e
          (subst (λ z. stops_process k.node.machine.control.registers z ≡ true) (sym same) stops) u m;
    }))
