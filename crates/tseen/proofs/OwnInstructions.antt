-- The instruction of the current process of a node is seen as steps of a run of a plan with a certificate.
use Rattle.tseen.proofs.AltwtSeen.{awaits_are_seen}
use Rattle.tseen.proofs.EnbcLaw.{enbc_is_seen}
use Rattle.tseen.proofs.DiscLaw.{disc_is_seen}
use Rattle.tseen.proofs.AltendSeen.{altend_is_seen}
use Rattle.tseen.proofs.DissSeen.{diss_is_seen}
use Rattle.tseen.proofs.SkipsSeen.{skips_are_seen}
use Rattle.tseen.proofs.AltSeen.{alts_are_seen}
use Rattle.tseen.specs.Messages.{FindsOther}
use Rattle.std.proofs.Common.{Option, None}
use Rattle.tseen.specs.AgentSteps.{NothingStops, AgentMakes, HasStep}
use Rattle.tseen.specs.Choices.{enabler_at}
use Rattle.std.proofs.Common.{◌≡◌, ◌≢◌, ℕ, zero, suc, ◌<◌, refl, sym, subst, ◌∙◌, List, Bool, true}
use Rattle.std.proofs.Common.{false, Some, arith, ◌⊎◌, inl, inr}
use Rattle.std.proofs.lemmas.Bool.{cases_eq}
use Rattle.tword.specs.Words.{plus}
use Rattle.tcode.specs.declared.instruction.Instruction.{Instruction}
use Rattle.tcode.specs.declared.instruction.Operation.{Operation}
use Rattle.tcode.specs.declared.instruction.Operation.TheVariants.{Startp, Endp, Runp, Stopp, Stoperr, Ldpri, In}
use Rattle.tcode.specs.declared.instruction.Operation.TheVariants.{Out, Alt, Enbc, Enbs, Altwt, Disc, Diss, Altend}
use Rattle.tcode.specs.declared.instruction.Operation.TheVariants.{Outbyte, Outword}
use Rattle.tcpu.specs.declared.registers.Next.{Next}
use Rattle.tcpu.specs.declared.registers.Next.TheVariants.{Go, Jumped, Schedule, Halt}
use Rattle.tproc.specs.Machine.{Control}
use Rattle.tproc.specs.LinkChannels.{is_link}
use Rattle.tproc.specs.Queues.{not_process}
use Rattle.tplan.specs.declared.plan.Plan.{Plan}
use Rattle.tnet.specs.Rendezvous.{Configuration}
use Rattle.tprocesses.specs.Places.{Name, Standing}
use Rattle.tprocesses.specs.Values.{Stand, Runs, Listens, stand_in}
use Rattle.tprocesses.specs.Machine.{Agent, Process, Channel, site_of}
use Rattle.tprocesses.specs.Scheduling.{schedules}
use Rattle.tprocesses.specs.Certified.{ProcessStep, IsCertificate}
use Rattle.tseen.specs.Alternatives.{FollowsTwice, LeadsOrListens, carrier_of}
use Rattle.tseen.specs.Steps.{IsCurrent, Makes, LeadsTo, next_of, yields}
use Rattle.tseen.specs.Ended.{left_to_end, successor_of}
use Rattle.tseen.specs.Messages.{is_message, Communicates, channel_of, channel_word}
use Rattle.tseen.proofs.After.{State, After, after_step}
use Rattle.tseen.proofs.Running.{RunsThere}
use Rattle.tseen.proofs.Stepped.{local_instructions_are_seen, there, step_then, next_is, one_next}
use Rattle.tseen.proofs.Scheduled.{go_not_scheduled, jumped_not_scheduled, one_operation}
use Rattle.tseen.proofs.Scheduled.{loaded_priorities_are_seen, unstopped_are_seen}
use Rattle.tseen.proofs.Jumps.{instructions_are_done, high_jumps_are_seen, low_jumps_are_seen}
use Rattle.tseen.proofs.YieldShown.{yields_are_seen}
use Rattle.tseen.proofs.Stops.{stops_are_seen}
use Rattle.tseen.proofs.Beginnings.{beginnings_are_seen}
use Rattle.tseen.proofs.Ended.{ends_are_seen}
use Rattle.tseen.proofs.Succeeding.{last_ends_are_seen, successors_are_due}
use Rattle.tseen.proofs.EnabledMessages.{enabled_messages_are_seen}
use Rattle.tseen.proofs.FirstHalves.{first_halves_are_seen}
use Rattle.tseen.proofs.LinkOperations.{link_operations_are_seen}
use Rattle.tseen.proofs.Meetings.{meetings_are_seen, meetings_go_on}
use Rattle.tseen.proofs.Due.{process_due}
use Rattle.tseen.proofs.DueNext.{low_jump_due}
use Rattle.tplan.specs.declared.plan.End.{End}
use Rattle.tseen.specs.Carried.{handed}
use Rattle.tseen.proofs.Reached.{IsComeTo, GoesOn, Progress, hands_nothing, nothing_more, none_more, never, few, on}
use Rattle.tseen.proofs.Reached.{told}

-- the own step of a node leads to what is shown by a state of a run
pub record Leads (p : Plan) (c : Configuration) (n : ℕ) (s : State) (r : IsComeTo p s) : Type 0 where
  pub state : State
  pub reached : IsComeTo p state
  pub leads : LeadsTo p c n state
  pub progress : Progress p s state r reached c leads.configuration
  -- no message goes over a wire
  pub quiet : (e : End) → handed p e reached.steps ≡ handed p e r.steps

module _ (p : Plan) (steps : List ProcessStep) (end : State) (k : IsCertificate p steps end) (c : Configuration)
    (s : State) (r : IsComeTo p s) (n : ℕ) (x : Name) (now : IsCurrent p c s n x) where
  abbrev m : Control
  m = now.node.machine.control

  abbrev running : RunsThere s n now.plan now.node x
  running = there p c s n x now

  first : GoesOn p (Process x) s r
  first = on p steps end k s r (Process x) (process_due p x s (Runs running.context) running.stood refl)

  abbrev s' : State
  s' = first.state

  makes : Makes p x s s'
  makes = first.makes

  first_quiet : (e : End) → handed p e first.reached.steps ≡ handed p e r.steps
  first_quiet e = hands_nothing p (Process x) s r first e refl

  leading : LeadsTo p c n s' → Leads p c n s r
  leading l =
      record {
        state = s';
        reached = first.reached;
        leads = l;
        progress = inl (omega (arith, first.longer));
        quiet = first_quiet;
      }

  -- a jump of a low process
  low_jump : next_of now.node.machine ≡ Some Jumped → m.current ≡ Some 1 → (b : Bool) → yields m ≡ b → Leads p c n s r
  low_jump next low true h = leading (yields_are_seen p c s s' n x now next low h makes)
  low_jump next low false h =
      let second : GoesOn p (Process x) s' first.reached =
      on p steps end k s' first.reached (Process x) (low_jump_due p c s s' n x now next low makes) in
      record {
        state = second.state;
        reached = second.reached;
        leads = low_jumps_are_seen p c s s' second.state n x now next low h makes
            second.makes;
        quiet = λ e. hands_nothing p (Process x) s' first.reached second e refl ∙ first_quiet e;
        progress = inl (omega (arith, first.longer, second.longer));
      }

  jump : next_of now.node.machine ≡ Some Jumped → Leads p c n s r
  jump next = by running.level running.current running.small
    where
      by : (l : ℕ) → m.current ≡ Some l → l < 2 → Leads p c n s r
      by zero e h = leading (high_jumps_are_seen p c s s' n x now next e makes)
      by (suc zero) e h = low_jump next e (yields m) refl
      by (suc (suc l)) e h = absurd (omega (arith, h))

  -- an operation that each step of its process would stop at
  never_done : (o : Operation) → next_of now.node.machine ≡ Some (Schedule o)
      → ((u : State) (i : Instruction) → After (schedules o (site_of n now.plan) x (record running.context {
        iptr = plus running.context.iptr i.length;
      })) u (λ _ z. ⊥)) → ⊥
  never_done o next stuck =
      after_step p x s s' (λ _ z. ⊥) makes (step_then p c s n x now (λ _ z. ⊥)
      (λ i decodes pp t. record {
        goes = λ d e u w.
            absurd (go_not_scheduled o (sym e ∙ one_next (sym (next_is p c s n x now i pp t decodes d) ∙ next)));
        jumps = λ d e u w f still.
            absurd (jumped_not_scheduled o (sym e ∙ one_next (sym (next_is p c s n x now i pp t decodes d) ∙ next)));
        schedules = λ d o' e u w.
            subst (λ z. After (schedules z (site_of n now.plan) x (record running.context {
              iptr = plus running.context.iptr i.length;
            })) u (λ _ z. ⊥))
            (sym (one_operation (sym e ∙ one_next (sym (next_is p c s n x now i pp t decodes d) ∙ next))))
            (stuck u i);
      }))

  -- one of several processes ends
  ending : next_of now.node.machine ≡ Some (Schedule Endp) → Leads p c n s r
  ending next = by (cases_eq (left_to_end now.node.machine) 1)
    where
      by : (left_to_end now.node.machine ≡ 1) ⊎ (left_to_end now.node.machine ≢ 1) → Leads p c n s r
      by (inl e) =
          let second : GoesOn p (successor_of n now.node.machine) s' first.reached =
          on p steps end k s' first.reached (successor_of n now.node.machine)
          (successors_are_due p c s s' n x now next e makes) in
          record {
            state = second.state;
            reached = second.reached;
            leads = last_ends_are_seen p c s s' second.state n x now next e makes second.makes;
            progress = inl (omega (arith, first.longer, second.longer));
            quiet = λ d. hands_nothing p (successor_of n now.node.machine) s' first.reached second d refl
                ∙ first_quiet d;
          }
      by (inr d) =
          leading (ends_are_seen p c s s' n x now next d makes
          (never p steps end k s' first.reached (successor_of n now.node.machine)))

  stops_nowhere : NothingStops p s'
  stops_nowhere = never p steps end k s' first.reached

  -- a message that another process waits for
  meeting : (both : Communicates p c s s' n x) → FindsOther both → Leads p c n s r
  meeting both d =
      let second : GoesOn p (Channel n (channel_of both)) s' first.reached =
      on p steps end k s' first.reached (Channel n (channel_of both)) (meetings_go_on p c s s' n x both d).0 in
      let third : GoesOn p (Process x) second.state second.reached =
      on p steps end k second.state second.reached (Process x)
      ((meetings_go_on p c s s' n x both d).1 second.state second.makes) in
      record {
        state = third.state;
        reached = third.reached;
        leads = meetings_are_seen p c s s' second.state third.state n x both d second.makes third.makes;
        progress = inl (omega (arith, first.longer, second.longer, third.longer));
        quiet = λ e. nothing_more p (Process x) second.state second.reached third e refl _
            (nothing_more p (Channel n (channel_of both)) s' first.reached second e refl _ (first_quiet e));
      }

  -- a message on a channel that is enabled
  enabled : (both : Communicates p c s s' n x)
      → LeadsTo p c n s' ⊎ (HasStep p (Channel n (channel_of both)) s'
      × ((t : State) → AgentMakes p (Channel n (channel_of both)) s' t → LeadsTo p c n t)) → Leads p c n s r
  enabled both (inl l) = leading l
  enabled both (inr l) =
      let second : GoesOn p (Channel n (channel_of both)) s' first.reached =
      on p steps end k s' first.reached (Channel n (channel_of both)) l.0 in
      record {
        state = second.state;
        reached = second.reached;
        leads = l.1 second.state second.makes;
        progress = inl (omega (arith, first.longer, second.longer));
        quiet = λ e. nothing_more p (Channel n (channel_of both)) s' first.reached second e refl _ (first_quiet e);
      }

  -- `disc`
  disabling : (stand : Stand) → LeadsOrListens stand p c n x s' → Leads p c n s r
  disabling (Listens channel d) more =
      let second : GoesOn p (Process x) s' first.reached = on p steps end k s' first.reached (Process x) more.0 in
      record {
        state = second.state;
        reached = second.reached;
        leads = more.1 second.state second.makes;
        progress = inl (omega (arith, first.longer, second.longer));
        quiet = λ e. nothing_more p (Process x) s' first.reached second e refl _ (first_quiet e);
      }
  disabling _ l = leading l

  -- `altwt`
  awaiting : LeadsTo p c n s' ⊎ FollowsTwice p c n x s' → Leads p c n s r
  awaiting (inl l) = leading l
  awaiting (inr (channel, enabled_there, due, more)) =
      let a : Agent = carrier_of n channel in
      let second : GoesOn p a s' first.reached = on p steps end k s' first.reached a due in
      let last = more second.state second.makes in
      let third : GoesOn p (Process x) second.state second.reached =
      on p steps end k second.state second.reached (Process x) last.1.0 in
      record {
        state = third.state;
        reached = third.reached;
        leads = last.1.1 third.state third.makes;
        progress = inl (omega (arith, first.longer, second.longer, third.longer));
        quiet = λ e. nothing_more p (Process x) second.state second.reached third e refl _
            (none_more p a s' first.reached second e last.0 _ (first_quiet e));
      }

  -- a message
  message : (o : Operation) → next_of now.node.machine ≡ Some (Schedule o) → is_message o ≡ true → (b : Bool)
      → is_link m.registers.b ≡ b → Leads p c n s r
  message o next is true h = leading (link_operations_are_seen p c s s' n x o now next is h makes)
  message o next is false h = by (cases_eq (channel_word both) not_process)
    where
      both : Communicates p c s s' n x
      both =
          record {
            current = now;
            operation = o;
            next = next;
            message = is;
            internal = h;
            makes = makes;
            none_stops = never p steps end k s' first.reached;
          }

      by : (channel_word both ≡ not_process) ⊎ (channel_word both ≢ not_process) → Leads p c n s r
      by (inl e) = leading (first_halves_are_seen p c s s' n x both e)
      by (inr d) = by_enabler (enabler_at s n (channel_of both)) refl
        where
          by_enabler : (o : Option Name) → enabler_at s n (channel_of both) ≡ o → Leads p c n s r
          by_enabler None e = meeting both (d, e)
          by_enabler (Some y) e = enabled both (enabled_messages_are_seen p c s s' n x y both e)

  operation : (o : Operation) → next_of now.node.machine ≡ Some (Schedule o) → Leads p c n s r
  operation Startp next =
      leading (beginnings_are_seen p c s s' n x Startp now next refl (told p s r n)
      (few p steps end k s' first.reached n) makes)
  operation Runp next =
      leading (beginnings_are_seen p c s s' n x Runp now next refl (told p s r n)
      (few p steps end k s' first.reached n) makes)
  operation Ldpri next = leading (loaded_priorities_are_seen p c s s' n x now next makes)
  operation Stopp next = leading (stops_are_seen p c s s' n x Stopp now next refl makes)
  operation Stoperr next = by m.registers.error refl
    where
      by : (b : Bool) → m.registers.error ≡ b → Leads p c n s r
      by true e = leading (stops_are_seen p c s s' n x Stoperr now next e makes)
      by false e = leading (unstopped_are_seen p c s s' n x now next e makes)
  operation Endp next = ending next
  operation In next = message In next refl (is_link m.registers.b) refl
  operation Out next = message Out next refl (is_link m.registers.b) refl
  operation Outbyte next = message Outbyte next refl (is_link m.registers.b) refl
  operation Outword next = message Outword next refl (is_link m.registers.b) refl
  operation Alt next = leading (alts_are_seen p c s s' n x now next makes stops_nowhere)
  operation Enbc next = leading (enbc_is_seen p c s s' n x now next makes stops_nowhere)
  operation Enbs next = leading (skips_are_seen p c s s' n x now next makes stops_nowhere)
  operation Altwt next = awaiting (awaits_are_seen p c s s' n x now next makes stops_nowhere)
  operation Disc next = disabling (stand_in (s' (Standing x))) (disc_is_seen p c s s' n x now next makes)
  operation Diss next = leading (diss_is_seen p c s s' n x now next makes stops_nowhere)
  operation Altend next = leading (altend_is_seen p c s s' n x now next makes stops_nowhere)
  operation o next = absurd (never_done o next (λ u i. tt))

  -- the same holds for each instruction
  pub instruction : Leads p c n s r
  instruction = by done.0 done.1 done.2
    where
      done : (next : Next) × (next_of now.node.machine ≡ Some next) × (next ≢ Halt)
      done = instructions_are_done p c s s' n x now makes

      by : (next : Next) → next_of now.node.machine ≡ Some next → next ≢ Halt → Leads p c n s r
      by Go next h = leading (local_instructions_are_seen p c s s' n x now next makes)
      by Jumped next h = jump next
      by (Schedule o) next h = operation o next
      by Halt next h = absurd (h refl)
