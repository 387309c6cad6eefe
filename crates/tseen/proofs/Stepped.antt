-- The step of a current process whose instruction is local leads where its node's own step leads.
use Rattle.std.proofs.Common.{◌≡◌, ◌≢◌, ℕ, ◌+◌, ◌<◌, ◌/◌, refl, sym, ap, subst, ◌∙◌, Bool, true, [], false, true≢false}
use Rattle.std.proofs.Common.{cond, get_or, Ok, Option, Some, None, arith}
use Rattle.std.specs.Prelude.{◌==◌, is_some}
use Rattle.std.proofs.lemmas.Bool.{ne_eqb}
use Rattle.std.proofs.lemmas.List.{ext_get_or}
use Rattle.tword.specs.Words.{most_neg}
use Rattle.tword.specs.Stores.{Store, hiding}
use Rattle.tword.specs.Claims.{Claims, is_input}
use Rattle.tword.specs.Touches.{byte_span}
use Rattle.tword.specs.Actions.{run, run_from}
use Rattle.tword.proofs.Hiding.{length-hiding_from, get_or-hiding_from, within_uncovered}
use Rattle.tcode.specs.declared.instruction.Operation.{Operation}
use Rattle.tcode.specs.declared.instruction.Instruction.{Instruction}
use Rattle.tcode.specs.Decoding.{decode}
use Rattle.tcpu.specs.declared.registers.Registers.{Registers}
use Rattle.tcpu.specs.declared.registers.Next.{Next}
use Rattle.tcpu.specs.declared.registers.Next.TheVariants.{Go, Jumped, Schedule}
use Rattle.tcpu.specs.Outcomes.{Outcome}
use Rattle.tcpu.specs.Effects.{effect}
use Rattle.tproc.specs.declared.ran.Ran.{Ran}
use Rattle.tproc.specs.declared.ran.Ran.TheVariants as ran
use Rattle.tproc.specs.Machine.{Control, Machine, claims_of}
use Rattle.tproc.specs.Hidden.{hidden}
use Rattle.tproc.specs.Steps.{step, instruction_step, after, acted}
use Rattle.tproc.specs.Scheduler.{counted}
use Rattle.treduction.specs.Plain.{rank}
use Rattle.treduction.proofs.PlainSteps.{follows, running}
use Rattle.treduction.proofs.Effects.{decode-plain, effect-plain}
use Rattle.tplan.specs.declared.plan.Plan.{Plan}
use Rattle.tnet.specs.Rendezvous.{Node, Configuration}
use Rattle.tprocesses.specs.Places.{Place, Name, WordAt, Standing, LinkHalf, Error, HaltOnError, Life, FlagChanged}
use Rattle.tprocesses.specs.Places.{same_name}
use Rattle.tproc.specs.declared.channels.Side.TheVariants.{Output}
use Rattle.tplan.specs.Wires.{end_at}
use Rattle.tprocesses.specs.Values.{Value, Context, Runs, Free, stand_in}
use Rattle.tprocesses.specs.Parts.{require, SawTheScheduler}
use Rattle.tprocesses.specs.Touching.{Site}
use Rattle.tprocesses.specs.Performing.{Performed, perform}
use Rattle.tprocesses.specs.Machine.{Process, site_of, step_of, at_site, stepped}
use Rattle.tprocesses.specs.Instructions.{runs}
use Rattle.tseen.specs.Known.{HasRegisters}
use Rattle.tseen.specs.Seats.{Seat, Interrupted}
use Rattle.tseen.specs.Outputs.{Pending}
use Rattle.tseen.specs.Shown.{ShowsNode}
use Rattle.tseen.specs.Steps.{IsCurrent, LeadsTo, is_dispatching, next_in, next_after, next_of}
use Rattle.tseen.specs.Steps.{LocalInstructionsAreSeen}
use Rattle.tseen.proofs.After.{State, After, after_bind, after_require, after_step}
use Rattle.tseen.proofs.Spans.{claim_parts, word_of_number}
use Rattle.tseen.proofs.Cells.{use_of}
use Rattle.tseen.proofs.Touched.{Permits}
use Rattle.tseen.proofs.Written.{is_word_of}
use Rattle.tseen.proofs.Stored.{GoesOn}
use Rattle.tseen.proofs.Decoded.{decode_then, GivesIt}
use Rattle.tseen.proofs.Executed.{IsExecuted, executed_then}
use Rattle.tseen.proofs.Completed.{is_own, WentOn, Follows, completed_then, left_context}
use Rattle.tseen.proofs.Frames.{node_at}
use Rattle.tseen.proofs.Nets.{leads_by}
use Rattle.tseen.proofs.NoticedOffers.{KeepsOffers, outputs_stay}
use Rattle.tseen.proofs.Own.{own_shown}
use Rattle.tseen.proofs.Running.{RunsThere, runs_there, interrupted_apart}

-- pending inputs that were hidden are hidden still, where their bytes stay
pub hidden_if : (m : Control) (store store' : Store)
    → ((i : ℕ) → is_input (claims_of m) (byte_span (most_neg + i)) ≡ true → get_or store' i None ≡ get_or store i None)
    → hiding (λ a. is_input (claims_of m) (byte_span a)) store ≡ store
    → hiding (λ a. is_input (claims_of m) (byte_span a)) store' ≡ store'
hidden_if m store store' stays hides =
    ext_get_or None (hiding f store') store' (length-hiding_from f most_neg store') (λ i h.
    get_or-hiding_from f most_neg store' i ∙ by i (f (most_neg + i)) refl)
  where
    f : ℕ → Bool
    f a = is_input (claims_of m) (byte_span a)

    none_there : (i : ℕ) → is_input (claims_of m) (byte_span (most_neg + i)) ≡ true → get_or store i None ≡ None
    none_there i h =
        ap (λ (z : Store). get_or z i None) (sym hides)
        ∙ get_or-hiding_from (λ a. is_input (claims_of m) (byte_span a)) most_neg store i
        ∙ ap (λ b. cond b None (get_or store i None)) h

    by : (i : ℕ) (b : Bool) → is_input (claims_of m) (byte_span (most_neg + i)) ≡ b
        → cond (is_input (claims_of m) (byte_span (most_neg + i))) None (get_or store' i None) ≡ get_or store' i None
    by i true e = rw e (sym (stays i e ∙ none_there i e))
    by i false e = rw e refl

-- no word that is free has a byte of one
pub input_not_free : (s : State) (n : ℕ) (m : Control) (i : ℕ) → Permits s n (claims_of m)
    → is_input (claims_of m) (byte_span (most_neg + i)) ≡ true → use_of s n (i / 4) ≡ Free → ⊥
input_not_free s n m i permits h e =
    let clear : is_input (claims_of m) (word_of_number (i / 4)) ≡ false =
    (claim_parts _ _ (permits.reads (i / 4) e)).0 in
    true≢false (sym h ∙ within_uncovered (claims_of m).inputs (word_of_number (i / 4)) (most_neg + i) (omega arith)
    (omega arith) clear)

-- so they are hidden still where free words alone changed
pub still_hidden : (n size : ℕ) (s t : State) (m : Control) (store store' : Store) → Permits s n (claims_of m)
    → GoesOn n size s t store store'
    → hiding (λ a. is_input (claims_of m) (byte_span a)) store ≡ store
    → hiding (λ a. is_input (claims_of m) (byte_span a)) store' ≡ store'
still_hidden n size s t m store store' permits on hides =
    hidden_if m store store' (λ i h. on.only i (λ e. input_not_free s n m i permits h e)) hides

-- the places of other nodes stay, where those do that are no words and not of the process
pub elsewhere_if : (n : ℕ) (x : Name) (s s' : State) → x.node ≡ n
    → ((q : Place) → is_own n x q ≡ false → is_word_of n q ≡ false → s' q ≡ s q)
    → (q : Place) → node_at q ≢ n → s' q ≡ s q
elsewhere_if n x s s' home stays q h = stays q (own q h) (word q h)
  where
    not_n : (m : ℕ) → m ≢ n → (n == m) ≡ false
    not_n m h = ne_eqb n m (λ e. h (sym e))

    word : (q : Place) → node_at q ≢ n → is_word_of n q ≡ false
    word (WordAt m k) h = not_n m h
    word _ h = refl

    own : (q : Place) → node_at q ≢ n → is_own n x q ≡ false
    own (Standing y) h = rw (ne_eqb x.node y.node (λ e. h (sym e ∙ home))) refl
    own (Error m) h = rw (not_n m h) refl
    own (HaltOnError m) h = rw (not_n m h) refl
    own (FlagChanged m) h = rw (not_n m h) refl
    own (Life m w) h = rw (not_n m h) refl
    own _ h = refl

pub elsewhere : (site : Site) (size : ℕ) (x : Name) (old : ℕ) (after : Registers) (c : Context) (s t s' : State)
    (store store' : Store) → x.node ≡ site.number → GoesOn site.number size s t store store'
    → WentOn site x old after c t s' → (q : Place) → node_at q ≢ site.number → s' q ≡ s q
elsewhere site size x old after c s t s' store store' home on went =
    elsewhere_if site.number x s s' home (λ q h w. went.others q h ∙ on.keeps.others q w)

module _ (p : Plan) (c : Configuration) (s : State) (n : ℕ) (x : Name) (k : IsCurrent p c s n x) where
  abbrev m : Control
  m = k.node.machine.control

  abbrev site : Site
  site = site_of n k.plan

  -- what is shown of the node
  pub shown_node : ShowsNode s n k.plan (k.shows.named n) (k.shows.sent n) k.node
  shown_node =
      let old = k.shows.processors n k.plan k.planned in
      subst (λ (z : Node). ShowsNode s n k.plan (k.shows.named n) (k.shows.sent n) z)
      (some_is (sym old.1 ∙ k.here)) old.2
    where
      some_is : {a b : Node} → Some a ≡ Some b → a ≡ b
      some_is e = cc

  -- its process runs
  pub there : RunsThere s n k.plan k.node x
  there = by m.current refl
    where
      by : (o : Option ℕ) → m.current ≡ o → RunsThere s n k.plan k.node x
      by None e =
          let f : true ≡ false = subst (λ (o : Option ℕ). is_dispatching o m.high ≡ false) e k.runs in
          absurd (true≢false f)
      by (Some level) e =
          let small : level < 2 = rw e at k.steady.placed.priority in
          runs_there s n k.plan (k.shows.named n) (k.shows.sent n) k.node shown_node k.steady k.kept level e small
          k.runs x k.name

  -- an interrupted process is another one
  pub apart : is_some m.interrupted ≡ true → same_name x (k.shows.named n Interrupted) ≡ false
  apart =
      interrupted_apart s n k.plan (k.shows.named n) (k.shows.sent n) k.node shown_node k.steady p x there

  abbrev claims : Claims
  claims = claims_of m

  -- what an instruction is followed by
  abbrev Followed : (i : Instruction) (pp : Performed Outcome) (t : State) (Q : Unit {0} → State → Type 0) → Type 0
  Followed i pp t Q =
      Follows p site there.whole claims i there.level m.registers there.context there.registers s k.node.machine.store
      there.tells there.permits there.flags x pp t Q

  abbrev pub Executed : (i : Instruction) (pp : Performed Outcome) (t : State) → Type 0
  Executed i pp t =
      IsExecuted site there.whole claims i there.level m.registers there.context there.registers s
      k.node.machine.store there.tells there.permits there.flags pp t

  -- the instruction is decoded and executed
  pub step_then : (Q : Unit {0} → State → Type 0)
      → ((i : Instruction) → run (decode m.kind m.registers.iptr) k.node.machine.store claims
      ≡ Ok (i, k.node.machine.store) → (pp : Performed Outcome) (t : State) → Followed i pp t Q)
      → After (step_of p (Process x)) s Q
  step_then Q h =
      subst (λ (v : Value). After (at_site p x.node (stepped p x (stand_in v))) s Q) (sym there.stood)
      (subst (λ j. After (at_site p j (stepped p x (Runs there.context))) s Q) (sym there.home) at_node)
    where
      whole_step : After (runs site x there.context) s Q
      whole_step =
          after_bind (perform site [] (decode k.plan.kind there.context.iptr)) _ s Q
          (decode_then site there.whole claims s k.node.machine.store there.tells there.permits k.plan.kind
          there.context.iptr _ (λ d g.
          after_bind (require d.known SawTheScheduler) _ s Q (after_require d.known SawTheScheduler s _ (λ known.
          executed_then site there.whole claims d.value there.level m.registers there.context there.registers s
          k.node.machine.store there.tells there.permits there.flags x Q (λ pp t read.
          completed_then p site there.whole claims d.value there.level m.registers there.context there.registers s
          k.node.machine.store there.tells there.permits there.flags x pp t Q (h d.value (decoded d g known) pp t)
          read)))))
        where
          decoded : (d : Performed Instruction)
              → GivesIt site there.whole claims s k.node.machine.store there.tells there.permits
              (decode k.plan.kind there.context.iptr) d
              → d.known ≡ true → run (decode m.kind m.registers.iptr) k.node.machine.store claims
              ≡ Ok (d.value, k.node.machine.store)
          decoded d g known =
              subst (λ z. run (decode z m.registers.iptr) k.node.machine.store claims
              ≡ Ok (d.value, k.node.machine.store)) (sym shown_node.kind)
              (subst (λ a. run (decode k.plan.kind a) k.node.machine.store claims ≡ Ok (d.value, k.node.machine.store))
              there.registers.iptr (g known))

      at_node : After (at_site p n (stepped p x (Runs there.context))) s Q
      at_node = rw (k.planned, After) whole_step

  -- the effect is that of the kind of the node
  pub does : (i : Instruction) (pp : Performed Outcome) (t : State) → (d : Executed i pp t)
      → run (effect m.kind i m.registers) k.node.machine.store claims ≡ Ok ((d.after, d.next), d.store')
  does i pp t d =
      subst (λ z. run (effect z i m.registers) k.node.machine.store claims ≡ Ok ((d.after, d.next), d.store'))
      (sym shown_node.kind) d.ran

  -- what follows is told
  pub next_is : (i : Instruction) (pp : Performed Outcome) (t : State)
      → run (decode m.kind m.registers.iptr) k.node.machine.store claims ≡ Ok (i, k.node.machine.store)
      → (d : Executed i pp t) → next_of k.node.machine ≡ Some d.next
  next_is i pp t decodes d = ap (next_after k.node.machine) decodes ∙ ap next_in (does i pp t d)

  -- what a step of the processor leaves is shown
  pub leads_there : (m' : Machine) (s' : State) (named : Seat → Name) (sent : ℕ → Option Pending)
      → step k.node.machine ≡ Ok (m', ran.Instruction) → hidden m' ≡ m'
      → ShowsNode s' n k.plan named sent (record k.node { machine = m' })
      → ((q : Place) → node_at q ≢ n → s' q ≡ s q)
      → KeepsOffers s s' n k.node (record k.node { machine = m' }) → LeadsTo p c n s'
  leads_there m' s' named sent stepped same shown others offers =
      leads_by p c s s' k.shows n k.plan k.planned k.node k.here shown_node.works m' ran.Instruction
      ((λ e. cc), (λ e. cc)) stepped same named sent shown others offers

  -- the machine where the process goes on
  abbrev pub made : (after : Registers) (store' : Store) (count : ℕ) → Machine
  made after store' count = record { control = record m { registers = after; count = count }; store = store' }

  -- where the process goes on, the node's step leads there
  pub leads : (after : Registers) (store' : Store) (count : ℕ) (s' : State) (u : State)
      → step k.node.machine ≡ Ok (made after store' count, ran.Instruction)
      → GoesOn n k.plan.memory s u k.node.machine.store store'
      → (c' : Context) → HasRegisters there.level after c' → c'.choice ≡ there.context.choice
      → WentOn site x there.context.wptr after c' u s' → LeadsTo p c n s'
  leads after store' count s' u stepped on c' knows same_choice went =
      leads_there (made after store' count) s' (k.shows.named n) (k.shows.sent n) stepped same own
      (elsewhere site k.plan.memory x there.context.wptr after c' s u s' k.node.machine.store store' there.home on went)
      (outputs_stay s s' n k.node (record k.node { machine = made after store' count })
      (λ l. went.others (LinkHalf (end_at n l) Output) refl ∙ on.keeps.others (LinkHalf (end_at n l) Output) refl)
      (λ l. refl))
    where
      own : ShowsNode s' n k.plan (k.shows.named n) (k.shows.sent n)
          (record k.node { machine = made after store' count })
      own =
          own_shown p k.plan n s u s' (k.shows.named n) (k.shows.sent n) k.node shown_node k.steady.placed there.whole
          x there.home there.level there.current k.name apart k.kept after count store' there.context c' there.stood
          there.registers.priority there.registers.wptr knows same_choice on
          (subst (λ w. WentOn site x w after c' u s') there.registers.wptr went) ran.Instruction stepped

      same : hidden (made after store' count) ≡ made after store' count
      same =
          ap (λ (z : Store). record { control = record m { registers = after; count = count }; store = z })
          (still_hidden n k.plan.memory s u m k.node.machine.store store' there.permits on
          (ap (λ (z : Machine). z.store) k.steady.hides))

  -- the step of the processor: what follows its instruction
  pub step_does : (i : Instruction) (pp : Performed Outcome) (t : State) (d : Executed i pp t) (control : Control)
      (did : Ran) (last : Store)
      → run (decode m.kind m.registers.iptr) k.node.machine.store claims ≡ Ok (i, k.node.machine.store)
      → run_from (after i.length (rank there.level) m d.after d.next) k.node.machine.store claims d.store'
      ≡ Ok ((control, did), last)
      → step k.node.machine ≡ Ok (record { control = control; store = last }, did)
  unfolding step instruction_step
  step_does i pp t d control did last decodes e =
      ap (acted k.node.machine.store)
      (running there.level m k.node.machine.store k.node.machine.store claims
      shown_node.runs_on there.current there.first
      ∙ follows (decode m.kind m.registers.iptr) _ k.node.machine.store k.node.machine.store claims
      i k.node.machine.store
      (decode-plain m.kind m.registers.iptr) decodes
      ∙ follows (effect m.kind i m.registers) _ k.node.machine.store k.node.machine.store claims (d.after, d.next)
      d.store' (effect-plain m.kind i m.registers) (does i pp t d)
      ∙ e)

  pub step_is : (i : Instruction) (pp : Performed Outcome) (t : State) (d : Executed i pp t) (control : Control)
      (last : Store)
      → run (decode m.kind m.registers.iptr) k.node.machine.store claims ≡ Ok (i, k.node.machine.store)
      → run_from (after i.length (rank there.level) m d.after d.next) k.node.machine.store claims d.store'
      ≡ Ok ((control, ran.Instruction), last)
      → step k.node.machine ≡ Ok (record { control = control; store = last }, ran.Instruction)
  step_is i pp t d control last decodes e = step_does i pp t d control ran.Instruction last decodes e

  -- the context that an instruction leaves
  abbrev pub left : Instruction → Performed Outcome → Context
  left i pp =
      left_context p site there.whole claims i there.level m.registers there.context there.registers s
      k.node.machine.store there.tells there.permits there.flags x pp

  -- the control of a process that goes on
  abbrev pub gone_on : Registers → Control
  gone_on r = counted (rank there.level) (record m { registers = r })

-- what follows an instruction is one thing
pub one_next : {a b : Next} → Some a ≡ Some b → a ≡ b
one_next e = cc

pub jumped_not_go : Jumped ≡ Go → ⊥
jumped_not_go e = cc

pub scheduled_not_go : (o : Operation) → Schedule o ≡ Go → ⊥
scheduled_not_go o e = cc

-- so local instructions are seen
pub local_instructions_are_seen : LocalInstructionsAreSeen
local_instructions_are_seen p c s s' n x k next makes =
    after_step p x s s' (λ _ s'. LeadsTo p c n s') makes (step_then p c s n x k (λ _ s'. LeadsTo p c n s')
    (λ i decodes pp t. record {
      goes = λ d e u went.
          leads p c s n x k d.after d.store' (gone_on p c s n x k d.after).count u t
          (step_is p c s n x k i pp t d (gone_on p c s n x k d.after) d.store' decodes
          (rw e refl)) d.on (left p c s n x k i pp) d.knows refl went;
      jumps = λ d e u moved flagged still.
          absurd (jumped_not_go (sym e ∙ one_next (sym (next_is p c s n x k i pp t decodes d) ∙ next)));
      schedules = λ d o e u moved.
          absurd (scheduled_not_go o (sym e ∙ one_next (sym (next_is p c s n x k i pp t decodes d) ∙ next)));
    }))
