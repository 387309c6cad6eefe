-- `in`, `out`, `outbyte` and `outword` on a link are seen as the instruction.
use Rattle.std.proofs.Common.{◌≡◌, ℕ, zero, suc, ◌+◌, ◌<◌, ◌≤◌, ◌/◌, ◌^◌, refl, sym, ap, subst, ◌∙◌, Bool, true, false}
use Rattle.std.proofs.Common.{true≢false, length, get_or, Ok, Option, Some, None, arith, inr}
use Rattle.std.specs.Prelude.{if◌then◌else◌}
use Rattle.std.specs.Int.{w32, to_le_bytes}
use Rattle.std.proofs.lemmas.Bool.{eq-eqb, eqb-true}
use Rattle.tword.specs.declared.span.Span.{Span}
use Rattle.tword.specs.Stores.{Store, place, with_word, as_cells}
use Rattle.tword.specs.Touches.{Writes, word_break}
use Rattle.tword.specs.Actions.{run, run_from}
use Rattle.tcode.specs.declared.instruction.Operation.{Operation}
use Rattle.tcode.specs.declared.instruction.Operation.TheVariants.{In, Out, Outbyte, Outword}
use Rattle.tcode.specs.declared.instruction.Instruction.{Instruction}
use Rattle.tcode.specs.Decoding.{decode}
use Rattle.tcpu.specs.declared.registers.Registers.{Registers}
use Rattle.tcpu.specs.declared.registers.Next.TheVariants.{Schedule}
use Rattle.tcpu.specs.Outcomes.{Outcome}
use Rattle.tproc.specs.declared.channels.Side.{Side}
use Rattle.tproc.specs.declared.channels.Side.TheVariants.{Input, Output}
use Rattle.tproc.specs.LinkChannels.{is_link, link_of, ran_link}
use Rattle.tproc.specs.Machine.{Control, claims_of}
use Rattle.tproc.specs.Scheduler.{counted_by}
use Rattle.tproc.specs.Steps.{step, after}
use Rattle.tplan.specs.declared.plan.Plan.{Plan}
use Rattle.tnet.specs.Rendezvous.{Configuration}
use Rattle.treduction.specs.Plain.{rank}
use Rattle.tprocesses.specs.Places.{Place, Name, Life}
use Rattle.tprocesses.specs.Values.{Free, Context}
use Rattle.tprocesses.specs.Parts.{Part, ◌>>=◌}
use Rattle.tprocesses.specs.Performing.{Performed}
use Rattle.tprocesses.specs.ChannelMessages.{takes_half}
use Rattle.tprocesses.specs.LinkMessages.{takes_link}
use Rattle.tprocesses.specs.Scheduling.{schedules, communicates, laid_down}
use Rattle.tprocesses.specs.Standing.{known}
use Rattle.tprocesses.specs.Touching.{Site, word_number, write_word_at}
use Rattle.tprocesses.specs.Machine.{site_of}
use Rattle.tseen.specs.Known.{Knows, HasRegisters}
use Rattle.tseen.specs.Steps.{IsCurrent, LeadsTo}
use Rattle.tseen.specs.Linked.{LinkOperationsAreSeen}
use Rattle.tseen.specs.Messages.{is_message}
use Rattle.tseen.proofs.After.{State, After, after_bind, after_step}
use Rattle.tseen.proofs.Cells.{use_of, Knows as KnowsCell}
use Rattle.tseen.proofs.Finished.{is_life_of, HasMoved, moved}
use Rattle.tseen.proofs.LinkRuns.{in_runs, out_runs, outbyte_runs, outword_runs}
use Rattle.tseen.proofs.Performed.{word_passes}
use Rattle.tseen.proofs.Running.{RunsThere}
use Rattle.tseen.proofs.Scheduled.{go_not_scheduled, jumped_not_scheduled, one_operation, unchanged, at_operation}
use Rattle.tseen.proofs.Asked.{four_laid}
use Rattle.tseen.proofs.Scheduled.{context_there, registers_there}
use Rattle.tseen.proofs.Stepped.{shown_node, there, step_then, Executed, next_is, one_next, step_does}
use Rattle.tseen.proofs.Stored.{GoesOn, goes_on_more, permits_on, set_both, knows_bytes}
use Rattle.tseen.proofs.LinkTaken.{made}
use Rattle.tseen.proofs.TakenShown.{may_take_it, take_leads}
use Rattle.tseen.proofs.Taking.{IsAsked, takes_link_then}
use Rattle.tseen.proofs.Writing.{IsWordWritten, write_word_at_then}

-- a value that decides is known
known_then : {B : Type 0} (o : Option ℕ) (value : ℕ) (f : ℕ → Part B) (s : State) (Q : B → State → Type 0)
    → Knows o value → After (f value) s Q → After (known o >>= f) s Q
known_then (Some a) value f s Q h k = subst (λ z. After (f z) s Q) (sym h) k
known_then None value f s Q h k = tt

-- what is stored is known where the register is
laid_known : (o : Option ℕ) (value : ℕ) → Knows o value → (j : ℕ)
    → KnowsCell (get_or (laid_down o) j None) (get_or (as_cells (to_le_bytes w32 value)) j None)
laid_known (Some a) value h j =
    knows_bytes true (to_le_bytes w32 a) (to_le_bytes w32 value) (λ _. ap (to_le_bytes w32) h) j
laid_known None value h j =
    knows_bytes false (to_le_bytes w32 0) (to_le_bytes w32 value) (λ e. absurd (true≢false (sym e))) j

same_rank : (level : ℕ) → level < 2 → level ≡ rank level
same_rank zero h = refl
same_rank (suc zero) h = refl
same_rank (suc (suc j)) h = absurd (omega arith)

module _ (p : Plan) (c : Configuration) (s : State) (n : ℕ) (x : Name) (k : IsCurrent p c s n x) (i : Instruction)
    (decodes : run (decode k.node.machine.control.kind k.node.machine.control.registers.iptr) k.node.machine.store
    (claims_of k.node.machine.control) ≡ Ok (i, k.node.machine.store)) (pp : Performed Outcome) (t : State)
    (d : Executed p c s n x k i pp t) (o : Operation) (is : d.next ≡ Schedule o)
    (u : State) (moved_on : HasMoved (site_of n k.plan) (there p c s n x k).context.wptr d.after.wptr t u) where
  abbrev m : Control
  m = k.node.machine.control

  abbrev store : Store
  store = k.node.machine.store

  abbrev site : Site
  site = site_of n k.plan

  abbrev running : RunsThere s n k.plan k.node x
  running = there p c s n x k

  abbrev context : Context
  context = context_there p c s n x k i decodes pp t d o is

  abbrev r : Registers
  r = at_operation p c s n x k i decodes pp t d o is

  abbrev knows : HasRegisters running.level r context
  knows = registers_there p c s n x k i decodes pp t d o is

  abbrev Leads : Unit {0} → State → Type 0
  Leads _ z = LeadsTo p c n z

  same : d.after ≡ m.registers
  same = unchanged p c s n x k i decodes pp t d o is

  same_wptr : r.wptr ≡ m.registers.wptr
  same_wptr = ap (λ (z : Registers). z.wptr) same

  small : r.iptr < 2 ^ 32
  small = omega arith

  -- no workspace has changed
  same_state : u ≡ t
  same_state = λ j q. at q j
    where
      at : (q : Place) → u q ≡ t q
      at q = by (is_life_of n q) refl
        where
          same_life : (b : ℕ) → u (Life n b) ≡ t (Life n b)
          same_life b =
              moved_on.lives b
              ∙ ap (λ z. moved site z d.after.wptr b (t (Life n b)))
              (running.registers.wptr ∙ ap (λ (z : Registers). z.wptr) (sym same))
              ∙ rw (eq-eqb d.after.wptr d.after.wptr refl) refl

          life : (q : Place) → is_life_of n q ≡ true → u q ≡ t q
          life (Life i b) e = subst (λ z. u (Life z b) ≡ t (Life z b)) (eqb-true _ _ e) (same_life b)
          life _ e = absurd (true≢false (sym e))

          by : (b : Bool) → is_life_of n q ≡ b → u q ≡ t q
          by true e = life q e
          by false e = moved_on.others q e

  on : GoesOn n k.plan.memory s u store d.store'
  on = subst (λ z. GoesOn n k.plan.memory s z store d.store') (sym same_state) d.on

  -- the half of the link is taken, and the step of the processor is given
  takes : (v : State) (store1 : Store) (gone : GoesOn n k.plan.memory s v store store1) (side : Side) (buffer : Span)
      → is_link r.b ≡ true
      → ((s' : State)
      → (a : IsAsked site running.whole x context side r.b buffer v gone.tells.words s')
      → step k.node.machine ≡ Ok (
        made p c s n x k v store1 gone r same_wptr small context knows side r.b buffer s' a,
        ran_link side (link_of side r.b),
      ))
      → After (communicates site x context side r.b buffer) v Leads
  takes v store1 gone side buffer link stepped =
      subst (λ b. After (if b then takes_link site x context side r.b buffer
      else takes_half site x context side r.b buffer) v Leads) (sym link)
      (takes_link_then site running.whole x context side r.b buffer v gone.tells.words p Leads (λ s' a.
      take_leads p c s n x k v store1 gone r same_wptr small context knows side r.b buffer s' a link
      (ap (λ (z : Registers). z.error) same) (ap (λ (z : Registers). z.halt_on_error) same) refl
      (stepped s' a)))

  -- what a processor does is its step
  steps_by : (control : Control) (side : Side) (last : Store)
      → run_from (after i.length running.level m d.after (Schedule o)) store (claims_of m) d.store'
      ≡ Ok ((control, ran_link side (link_of side r.b)), last)
      → step k.node.machine ≡ Ok (record { control = control; store = last }, ran_link side (link_of side r.b))
  steps_by control side last e =
      step_does p c s n x k i pp t d control (ran_link side (link_of side r.b)) last decodes
      (subst (λ z. run_from (after i.length (rank running.level) m d.after z) store (claims_of m) d.store'
      ≡ Ok ((control, ran_link side (link_of side r.b)), last)) (sym is)
      (subst (λ z. run_from (after i.length z m d.after (Schedule o)) store (claims_of m) d.store'
      ≡ Ok ((control, ran_link side (link_of side r.b)), last)) (same_rank running.level running.small) e))

  module _ (link : is_link r.b ≡ true) where
    -- `in` and `out`
    in_then : o ≡ In → After (schedules In site x context) u Leads
    in_then e =
        known_then context.a r.a _ u Leads knows.a (known_then context.b r.b _ u Leads knows.b
        (known_then context.c r.c _ u Leads knows.c
        (takes u d.store' on Input (record { start = r.c; size = r.a }) link (λ s' a.
        steps_by _ Input _
        (subst (λ z. run_from (after i.length running.level m d.after (Schedule z)) store (claims_of m) d.store'
        ≡ Ok (
          (
            (made p c s n x k u d.store' on r same_wptr small context knows Input r.b
                (record { start = r.c; size = r.a }) s' a).control,
            ran_link Input (link_of Input r.b),
          ),
          (made p c s n x k u d.store' on r same_wptr small context knows Input r.b
              (record { start = r.c; size = r.a }) s' a).store,
        )) (sym e)
        (in_runs running.level (counted_by In running.level (record m { registers = r })) store d.store'
        (claims_of m)
        (may_take_it p c s n x k u d.store' on r same_wptr small context knows Input r.b
        (record { start = r.c; size = r.a }) s' a link (ap (λ (z : Registers). z.error) same)
        (ap (λ (z : Registers). z.halt_on_error) same) refl
        (counted_by In running.level (record m { registers = r })).count)))))))

    out_then : o ≡ Out → After (schedules Out site x context) u Leads
    out_then e =
        known_then context.a r.a _ u Leads knows.a (known_then context.b r.b _ u Leads knows.b
        (known_then context.c r.c _ u Leads knows.c
        (takes u d.store' on Output (record { start = r.c; size = r.a }) link (λ s' a.
        steps_by _ Output _
        (subst (λ z. run_from (after i.length running.level m d.after (Schedule z)) store (claims_of m) d.store'
        ≡ Ok (
          (
            (made p c s n x k u d.store' on r same_wptr small context knows Output r.b
                (record { start = r.c; size = r.a }) s' a).control,
            ran_link Output (link_of Output r.b),
          ),
          (made p c s n x k u d.store' on r same_wptr small context knows Output r.b
              (record { start = r.c; size = r.a }) s' a).store,
        )) (sym e)
        (out_runs running.level (counted_by Out running.level (record m { registers = r })) store d.store'
        (claims_of m)
        (may_take_it p c s n x k u d.store' on r same_wptr small context knows Output r.b
        (record { start = r.c; size = r.a }) s' a link (ap (λ (z : Registers). z.error) same)
        (ap (λ (z : Registers). z.halt_on_error) same) refl
        (counted_by Out running.level (record m { registers = r })).count)))))))

    -- the message is stored
    module _ (v : State)
        (written : IsWordWritten site running.whole u v context.wptr (laid_down context.a)) where
      abbrev laid : Store
      laid = with_word d.store' r.wptr r.a

      pub gone : GoesOn n k.plan.memory s v store laid
      gone =
          goes_on_more n k.plan.memory s u v store d.store' laid on
          (subst (λ z. GoesOn n k.plan.memory u v d.store' (with_word d.store' z r.a)) knows.wptr
          (set_both n k.plan.memory u v d.store' context.wptr (laid_down context.a) (as_cells (to_le_bytes w32 r.a))
          on.tells written.keeps written.set (four_laid context.a) (λ j h. laid_known context.a r.a knows.a j)
          (λ j g h. subst (λ z. use_of u n z ≡ Free) (word j g h) written.touched.touched.free)
          (inr (written.touched.above, omega (arith, written.touched.at, written.touched.within)))))
        where
          word : (j : ℕ) → place context.wptr ≤ j → j < place context.wptr + 4 → word_number context.wptr ≡ j / 4
          word j g h = omega (arith, written.touched.at, g, h)

      pub passes : word_break (length store) (claims_of m) Writes r.wptr ≡ None
      passes =
          subst (λ z. word_break z (claims_of m) Writes r.wptr ≡ None) (sym (shown_node p c s n x k).size)
          (subst (λ z. word_break k.plan.memory (claims_of m) Writes z ≡ None) knows.wptr
          (word_passes site running.whole (claims_of m) u Writes context.wptr
          (permits_on s u n (claims_of m) on.keeps running.permits) written.touched))

    outbyte_then : o ≡ Outbyte → After (schedules Outbyte site x context) u Leads
    outbyte_then e =
        known_then context.b r.b _ u Leads knows.b
        (after_bind (write_word_at site context.wptr (laid_down context.a)) _ u Leads
        (write_word_at_then site running.whole context.wptr (laid_down context.a) u _ (four_laid context.a)
        (λ v written.
        subst (λ z. After (communicates site x context Output r.b (record { start = z; size = 1 })) v Leads)
        (sym knows.wptr)
        (takes v (with_word d.store' r.wptr r.a) (gone v written) Output (record { start = r.wptr; size = 1 }) link
        (λ s' a. steps_by _ Output _
        (subst (λ z. run_from (after i.length running.level m d.after (Schedule z)) store (claims_of m) d.store'
        ≡ Ok (
          (
            (made p c s n x k v (with_word d.store' r.wptr r.a) (gone v written) r same_wptr small context knows
                Output r.b (record { start = r.wptr; size = 1 }) s' a).control,
            ran_link Output (link_of Output r.b),
          ),
          (made p c s n x k v (with_word d.store' r.wptr r.a) (gone v written) r same_wptr small context knows Output
              r.b (record { start = r.wptr; size = 1 }) s' a).store,
        )) (sym e)
        (outbyte_runs running.level (counted_by Outbyte running.level (record m { registers = r })) store d.store'
        (claims_of m) (passes v written)
        (may_take_it p c s n x k v (with_word d.store' r.wptr r.a) (gone v written) r same_wptr small context knows
        Output r.b (record { start = r.wptr; size = 1 }) s' a link (ap (λ (z : Registers). z.error) same)
        (ap (λ (z : Registers). z.halt_on_error) same) refl
        (counted_by Outbyte running.level (record m { registers = r })).count))))))))

    outword_then : o ≡ Outword → After (schedules Outword site x context) u Leads
    outword_then e =
        known_then context.b r.b _ u Leads knows.b
        (after_bind (write_word_at site context.wptr (laid_down context.a)) _ u Leads
        (write_word_at_then site running.whole context.wptr (laid_down context.a) u _ (four_laid context.a)
        (λ v written.
        subst (λ z. After (communicates site x context Output r.b (record { start = z; size = 4 })) v Leads)
        (sym knows.wptr)
        (takes v (with_word d.store' r.wptr r.a) (gone v written) Output (record { start = r.wptr; size = 4 }) link
        (λ s' a. steps_by _ Output _
        (subst (λ z. run_from (after i.length running.level m d.after (Schedule z)) store (claims_of m) d.store'
        ≡ Ok (
          (
            (made p c s n x k v (with_word d.store' r.wptr r.a) (gone v written) r same_wptr small context knows
                Output r.b (record { start = r.wptr; size = 4 }) s' a).control,
            ran_link Output (link_of Output r.b),
          ),
          (made p c s n x k v (with_word d.store' r.wptr r.a) (gone v written) r same_wptr small context knows Output
              r.b (record { start = r.wptr; size = 4 }) s' a).store,
        )) (sym e)
        (outword_runs running.level (counted_by Outword running.level (record m { registers = r })) store d.store'
        (claims_of m) (passes v written)
        (may_take_it p c s n x k v (with_word d.store' r.wptr r.a) (gone v written) r same_wptr small context knows
        Output r.b (record { start = r.wptr; size = 4 }) s' a link (ap (λ (z : Registers). z.error) same)
        (ap (λ (z : Registers). z.halt_on_error) same) refl
        (counted_by Outword running.level (record m { registers = r })).count))))))))

  -- by the operation
  pub operation_then : is_message o ≡ true → is_link m.registers.b ≡ true → After (schedules o site x context) u Leads
  operation_then message on_link = by o refl message
    where
      there : is_link r.b ≡ true
      there = ap (λ (z : Registers). is_link z.b) same ∙ on_link

      by : (z : Operation) → o ≡ z → is_message z ≡ true → After (schedules o site x context) u Leads
      by In e h = subst (λ z. After (schedules z site x context) u Leads) (sym e) (in_then there e)
      by Out e h = subst (λ z. After (schedules z site x context) u Leads) (sym e) (out_then there e)
      by Outbyte e h = subst (λ z. After (schedules z site x context) u Leads) (sym e) (outbyte_then there e)
      by Outword e h = subst (λ z. After (schedules z site x context) u Leads) (sym e) (outword_then there e)
      by _ e h = absurd (true≢false (sym h))

-- operations on links
pub link_operations_are_seen : LinkOperationsAreSeen
link_operations_are_seen p c s s' n x o k next message on_link makes =
    after_step p x s s' (λ _ z. LeadsTo p c n z) makes (step_then p c s n x k (λ _ z. LeadsTo p c n z)
    (λ i decodes pp t. record {
      goes = λ d e u w.
          absurd (go_not_scheduled o (sym e ∙ one_next (sym (next_is p c s n x k i pp t decodes d) ∙ next)));
      jumps = λ d e u m f still.
          absurd (jumped_not_scheduled o (sym e ∙ one_next (sym (next_is p c s n x k i pp t decodes d) ∙ next)));
      schedules = λ d o' e u m.
          let same : o' ≡ o = one_operation (sym e ∙ one_next (sym (next_is p c s n x k i pp t decodes d) ∙ next)) in
          operation_then p c s n x k i decodes pp t d o' e u m
          (subst (λ z. is_message z ≡ true) (sym same) message) on_link;
    }))
