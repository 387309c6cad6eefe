-- Operations that begin a process are seen.
use Rattle.std.proofs.Common.{◌≡◌, ℕ, zero, suc, ◌+◌, ◌*◌, ◌<◌, ◌≤◌, refl, sym, ap, subst, ◌∙◌, Bool, true, false}
use Rattle.std.proofs.Common.{cond, List, ◌∷◌}
use Rattle.std.proofs.Common.{true≢false, length, Result, Ok, Option, Some, None, arith, pos}
use Rattle.std.specs.Prelude.{◌==◌, if◌then◌else◌}
use Rattle.std.specs.Int.{w32, from_le_bytes}
use Rattle.std.proofs.lemmas.Bool.{eqb-true, lt-ltb}
use Rattle.std.proofs.lemmas.List.Sums.{sum_by-cons}
use Rattle.tword.specs.Words.{most_neg, plus, word_below}
use Rattle.tword.specs.declared.breaks.Break.{Break}
use Rattle.tword.specs.Limits.{most_processes}
use Rattle.tword.specs.Stores.{Store, shown, word_at, with_word}
use Rattle.tword.specs.Claims.{Claims, saving}
use Rattle.tword.specs.Touches.{Reads, is_aligned}
use Rattle.tword.specs.Actions.{run, run_from}
use Rattle.tcode.specs.declared.instruction.Operation.{Operation}
use Rattle.tcode.specs.declared.instruction.Operation.TheVariants.{Startp, Runp}
use Rattle.tcode.specs.declared.instruction.Instruction.{Instruction}
use Rattle.tcode.specs.Decoding.{decode}
use Rattle.tcpu.specs.declared.registers.Registers.{Registers}
use Rattle.tcpu.specs.declared.registers.Next.TheVariants.{Schedule}
use Rattle.tcpu.specs.Outcomes.{Outcome, pop}
use Rattle.tproc.specs.declared.ran.Ran.TheVariants as ran
use Rattle.tproc.specs.declared.ran.Ran.{Ran}
use Rattle.tproc.specs.Machine.{Control, Machine, claims_of, workspace_of, priority_of}
use Rattle.tproc.specs.ProcessStatus.{live, is_live, has_room, queue}
use Rattle.tproc.specs.Queues.{last_of, appended}
use Rattle.tproc.specs.Scheduler.{counted_by, operation_step}
use Rattle.tproc.specs.Steps.{step, after}
use Rattle.tproc.proofs.WordsApart.{LiesWord, length-with_word, word_set}
use Rattle.tplan.specs.declared.plan.Plan.{Plan}
use Rattle.tnet.specs.Rendezvous.{Configuration}
use Rattle.treduction.specs.Plain.{rank}
use Rattle.tprocesses.specs.Places.{Name, Life, child_of}
use Rattle.tprocesses.specs.Values.{Context, IsAmount, Rests, Runs}
use Rattle.tprocesses.specs.Changes.{are_known, known_word}
use Rattle.tprocesses.specs.Parts.{Part, ◌>>=◌}
use Rattle.tprocesses.specs.Performing.{Performed}
use Rattle.tprocesses.specs.Touching.{Site, word_number, touch_word_at, kept}
use Rattle.tprocesses.specs.Standing.{known, fresh, starts, pop as pop_context}
use Rattle.tprocesses.specs.Scheduling.{schedules, starts_child, runs_child, with_child}
use Rattle.tprocesses.specs.Machine.{site_of}
use Rattle.tseen.specs.Known.{HasRegisters}
use Rattle.tseen.specs.Steps.{IsCurrent, LeadsTo}
use Rattle.tseen.specs.Begun.{begins_process, TellsRuns, HasFew, BeginningsAreSeen}
use Rattle.tseen.proofs.After.{State, After, after_bind, after_step}
use Rattle.tseen.proofs.Counted.{count_at}
use Rattle.tseen.proofs.Spans.{word_placed}
use Rattle.tseen.proofs.Cells.{word_of}
use Rattle.tseen.proofs.Writing.{IsWordTouched, touch_word_at_then}
use Rattle.tseen.proofs.Stored.{GoesOn, word_known}
use Rattle.tseen.proofs.Finished.{HasMoved, StandsNow, stands_then}
use Rattle.tseen.proofs.Running.{RunsThere}
use Rattle.tseen.proofs.Stepped.{shown_node, there, step_then, Executed, next_is, one_next, step_is}
use Rattle.tseen.proofs.Scheduled.{go_not_scheduled, jumped_not_scheduled, one_operation, unchanged, at_operation}
use Rattle.tseen.proofs.Scheduled.{context_there, registers_there}
use Rattle.tseen.proofs.Saving.{IsSaved}
use Rattle.tseen.proofs.Begins.{startp_runs, runp_runs}
use Rattle.tseen.proofs.Added.{linked}
use Rattle.tseen.proofs.Yielding.{other_cell_stays}
use Rattle.tseen.proofs.Coming.{HasCome, starts_then}
use Rattle.tseen.proofs.Joined.{begun, joined}
use Rattle.tseen.proofs.Leaving.{nothing_moved}
use Rattle.tseen.proofs.BegunWords.{HasBegun, made, passes}
use Rattle.tseen.proofs.BegunShown.{begun_leads, no_life, lives_now}

-- a value that decides is known
known_then : {A : Type 0} (o : Option ℕ) (f : ℕ → Part A) (s : State) (Q : A → State → Type 0)
    → ((v : ℕ) → o ≡ Some v → After (f v) s Q) → After (known o >>= f) s Q
known_then None f s Q h = tt
known_then (Some v) f s Q h = h v refl

-- there is room for one more, if with one there are no more than may live
room_for : (s : State) (n : ℕ) (m : Control) (w : ℕ)
    → ((a : ℕ) → s (Life n a) ≡ IsAmount (pos (count_at a (live m) + cond (w == a) 1 0))) → HasFew s n
    → has_room m ≡ true
room_for s n m w lives few =
    let most : length (w ∷ live m) ≤ most_processes =
    few (w ∷ live m) (λ a. lives a ∙ ap (λ z. IsAmount (pos z)) (one_front a w (live m))) in
    lt-ltb (length (live m)) most_processes (omega (arith, most))
  where
    one_front : (a v : ℕ) (ws : List ℕ) → count_at a ws + cond (v == a) 1 0 ≡ count_at a (v ∷ ws)
    one_front a v ws =
        let front : count_at a (v ∷ ws) ≡ cond (v == a) 1 0 + count_at a ws =
        sum_by-cons (λ u. cond (u == a) 1 0) v ws in omega (arith, front)

-- a word that is known
known_cells : (cells : Store) (v : ℕ) → known_word cells ≡ Some v
    → (are_known cells ≡ true) × (from_le_bytes w32 (shown cells) ≡ v)
known_cells cells v h = by (are_known cells) refl h
  where
    by : (b : Bool) → are_known cells ≡ b → (if b then Some (from_le_bytes w32 (shown cells)) else None) ≡ Some v
        → (are_known cells ≡ true) × (from_le_bytes w32 (shown cells) ≡ v)
    by true e g = (e, some g)
      where
        some : {a b : ℕ} → Some a ≡ Some b → a ≡ b
        some e = cc
    by false e g = cc

module _ (p : Plan) (c : Configuration) (s : State) (n : ℕ) (x : Name) (k : IsCurrent p c s n x) (i : Instruction)
    (decodes : run (decode k.node.machine.control.kind k.node.machine.control.registers.iptr) k.node.machine.store
    (claims_of k.node.machine.control) ≡ Ok (i, k.node.machine.store)) (pp : Performed Outcome) (t : State)
    (d : Executed p c s n x k i pp t) (o : Operation) (is : d.next ≡ Schedule o) (moved : State)
    (moved_on : HasMoved (site_of n k.plan) (there p c s n x k).context.wptr d.after.wptr t moved)
    (told : TellsRuns s n) where
  abbrev m : Control
  m = k.node.machine.control

  abbrev store : Store
  store = k.node.machine.store

  abbrev claims : Claims
  claims = claims_of m

  abbrev site : Site
  site = site_of n k.plan

  abbrev running : RunsThere s n k.plan k.node x
  running = there p c s n x k

  abbrev context : Context
  context = context_there p c s n x k i decodes pp t d o is

  abbrev registers : Registers
  registers = at_operation p c s n x k i decodes pp t d o is

  abbrev Leads : Unit {0} → State → Type 0
  Leads _ z = HasFew z n → LeadsTo p c n z

  knows : HasRegisters running.level registers context
  knows = registers_there p c s n x k i decodes pp t d o is

  same : d.after ≡ m.registers
  same = unchanged p c s n x k i decodes pp t d o is

  on : GoesOn n k.plan.memory s moved store d.store'
  on =
      subst (λ z. GoesOn n k.plan.memory s z store d.store')
      (sym (nothing_moved site running.context.wptr d.after.wptr t moved
      (running.registers.wptr ∙ sym (ap (λ (r : Registers). r.wptr) same)) moved_on)) d.on

  -- the control at the operation
  abbrev operated : Control
  operated = counted_by o (rank running.level) (record m { registers = registers })

  same_live : (w : ℕ) → is_live operated w ≡ is_live m w
  same_live w =
      ap (λ (r : Registers). is_live (record m { registers = r }) w) same

  same_room : has_room operated ≡ has_room m
  same_room = ap (λ (r : Registers). has_room (record m { registers = r })) same

  same_rank : context.priority ≡ rank running.level
  same_rank = knows.priority ∙ by running.level running.small
    where
      by : (level : ℕ) → level < 2 → level ≡ rank level
      by zero h = refl
      by (suc zero) h = refl
      by (suc (suc j)) h = absurd (omega (arith, h))

  rank_small : rank running.level < 2
  rank_small = subst (λ z. z < 2) (sym knows.priority ∙ same_rank) running.small

  -- what is the same of each that begins: its workspace may be written, nobody has it, and there is room
  module _ (s' : State) (few : HasFew s' n) (b : HasBegun p c s n x k s') where
    abbrev now : Machine
    now = made p c s n x k s' b

    room_there : has_room operated ≡ true
    room_there =
        same_room
        ∙ room_for s' n m b.workspace (lives_now p c s n x k s' b) few

    new_there : is_live operated b.workspace ≡ false
    new_there = same_live b.workspace ∙ no_life p c s n x k s' b

    -- so what its operation makes leads on
    operation_leads : (first : Store) (q : ℕ) → b.first ≡ first → b.priority ≡ q
        → b.count ≡ operated.count
        → run_from (after i.length (rank running.level) m d.after (Schedule o)) store claims d.store'
        ≡ Ok (
          (record (appended b.workspace q operated) { registers = b.registers }, ran.Instruction),
          linked (saving b.workspace claims) (last_of (queue operated q)) b.workspace first,
        )
        → LeadsTo p c n s'
    operation_leads first q e f g ran_so = begun_leads p c s n x k s' b stepped
      where
        result_is : ◌≡◌ {A = Result ((Control × Ran) × Store) Break}
            (Ok (
              (record (appended b.workspace q operated) { registers = b.registers }, ran.Instruction),
              linked (saving b.workspace claims) (last_of (queue operated q)) b.workspace first,
            ))
            (Ok ((now.control, ran.Instruction), now.store))
        result_is =
            subst (λ z. ◌≡◌ {A = Result ((Control × Ran) × Store) Break}
            (Ok (
              (record (appended b.workspace z operated) { registers = b.registers }, ran.Instruction),
              linked (saving b.workspace claims) (last_of (queue operated z)) b.workspace first,
            ))
            (Ok ((now.control, ran.Instruction), now.store))) f
            (ap (λ (z : Control). Ok (
              (z, ran.Instruction),
              linked (saving b.workspace claims) (last_of (queue operated b.priority)) b.workspace first,
            )) (joined b.priority b.workspace b.registers operated
            ∙ ap (λ z. begun b.priority b.workspace b.registers z m) (sym g))
            ∙ ap (λ (z : Store). Ok (
              (now.control, ran.Instruction),
              linked (saving b.workspace claims) (last_of (queue operated b.priority)) b.workspace z,
            )) (sym e))

        stepped : step k.node.machine ≡ Ok (now, ran.Instruction)
        stepped =
            step_is p c s n x k i pp t d now.control now.store decodes
            (subst (λ z. run_from (after i.length (rank running.level) m d.after z) store claims d.store'
            ≡ Ok ((now.control, ran.Instruction), now.store)) (sym is) (ran_so ∙ result_is))

  -- `startp`
  module _ (e : o ≡ Startp) (workspace offset : ℕ) (a_is : context.a ≡ Some workspace)
      (b_is : context.b ≡ Some offset) where
    abbrev child : Context
    child = fresh context.priority workspace (plus context.iptr offset)

    abbrev goes : Context
    goes = pop_context (pop_context (with_child context))

    start_begun : (u v s' : State) → is_aligned workspace ≡ true
        → HasCome site (child_of x context.children) child (Rests child) moved u
        → IsSaved site running.whole u v workspace kept → StandsNow site x (Runs goes) v s' → HasBegun p c s n x k s'
    start_begun u v s' aligned come saved stands =
        record {
          t = moved;
          store' = d.store';
          on = on;
          told = told;
          child = child_of x context.children;
          home = running.home;
          priority = context.priority;
          small = subst (λ z. z < 2) (sym knows.priority) running.small;
          workspace = workspace;
          aligned = eqb-true _ _ aligned;
          address = plus context.iptr offset;
          u = u;
          v = v;
          come = come;
          saved = saved;
          context = goes;
          goes = stands;
          registers = pop (pop registers);
          same_choice = refl;
          knows = record {
            priority = knows.priority;
            wptr = knows.wptr;
            iptr = knows.iptr;
            a = knows.c;
            b = knows.c;
            c = knows.c;
            nothing_lent = knows.nothing_lent;
          };
          same_wptr = ap (λ (r : Registers). r.wptr) same;
          same_error = ap (λ (r : Registers). r.error) same;
          same_halting = ap (λ (r : Registers). r.halt_on_error) same;
          count = operated.count;
          first = with_word d.store' (word_below workspace 1) (plus context.iptr offset);
          size = length-with_word d.store' (word_below workspace 1) (plus context.iptr offset) 0 lies
              ∙ on.tells.length ∙ sym (shown_node p c s n x k).size;
          cells = λ j h. other_cell_stays d.store' (word_below workspace 1) (plus context.iptr offset) j lies h;
          word = word_set d.store' (word_below workspace 1) (plus context.iptr offset) lies (omega arith);
        }
      where
        lies : LiesWord (length d.store') (word_below workspace 1)
        lies =
            subst (λ z. LiesWord z (word_below workspace 1)) (sym on.tells.length) (record {
              above = saved.touched_one.above;
              within = omega (arith, saved.touched_one.at, saved.touched_one.within);
              aligned = eqb-true _ _ (word_placed site.size (word_below workspace 1) saved.touched_one.placed).0;
            })

    start_leads : (u v s' : State) → is_aligned workspace ≡ true
        → HasCome site (child_of x context.children) child (Rests child) moved u
        → IsSaved site running.whole u v workspace kept → StandsNow site x (Runs goes) v s' → HasFew s' n
        → LeadsTo p c n s'
    unfolding start_begun
    start_leads u v s' aligned come saved stands few =
        operation_leads s' few b
        (with_word d.store' (word_below workspace 1) (plus operated.registers.iptr operated.registers.b))
        (rank running.level) same_first same_rank refl
        (subst (λ z. run_from (operation_step z (rank running.level) operated) store claims d.store'
        ≡ Ok (
          (record (appended workspace (rank running.level) operated) { registers = b.registers }, ran.Instruction),
          linked (saving workspace claims) (last_of (queue operated (rank running.level))) workspace
              (with_word d.store' (word_below workspace 1) (plus operated.registers.iptr operated.registers.b)),
        )) (sym e)
        (startp_runs operated (workspace + rank running.level) workspace (rank running.level)
        (omega (arith, rank_small, b.aligned)) (omega (arith, rank_small, b.aligned)) store claims aligned
        (new_there s' few b) (room_there s' few b) (passes p c s n x k s' b) (rank running.level) d.store'
        same_workspace refl))
      where
        b : HasBegun p c s n x k s'
        b = start_begun u v s' aligned come saved stands

        same_workspace : registers.a ≡ workspace
        same_workspace = let h : workspace ≡ registers.a = rw a_is at knows.a in sym h

        same_first : with_word d.store' (word_below workspace 1) (plus context.iptr offset)
            ≡ with_word d.store' (word_below workspace 1) (plus registers.iptr registers.b)
        same_first =
            let h : offset ≡ registers.b = rw b_is at knows.b in
            ap (λ z. with_word d.store' (word_below workspace 1) (plus z offset)) knows.iptr
            ∙ ap (λ z. with_word d.store' (word_below workspace 1) (plus registers.iptr z)) h

  start_then : o ≡ Startp → After (starts_child site x context) moved Leads
  start_then e =
      known_then context.a _ moved Leads (λ workspace a_is.
      known_then context.b _ moved Leads (λ offset b_is.
      after_bind (starts site (child_of x context.children) (fresh context.priority workspace
      (plus context.iptr offset))) _ moved Leads
      (starts_then site p running.whole (child_of x context.children) (fresh context.priority workspace
      (plus context.iptr offset)) moved _ (λ aligned u v come saved.
      stands_then site p x (Runs (pop_context (pop_context (with_child context)))) v Leads (λ s' stands few.
      start_leads e workspace offset a_is b_is u v s' aligned come saved stands few)))))

  -- `runp`
  module _ (e : o ≡ Runp) (process address : ℕ) (a_is : context.a ≡ Some process)
      (touched : IsWordTouched site running.whole moved Reads (word_below (workspace_of process) 1))
      (there_is : known_word (word_of moved n (word_number (word_below (workspace_of process) 1))).cells
      ≡ Some address) where
    abbrev began : Context
    began = fresh (priority_of process) (workspace_of process) address

    abbrev goes_on_with : Context
    goes_on_with = pop_context (with_child context)

    run_begun : (u v s' : State) → is_aligned (workspace_of process) ≡ true
        → HasCome site (child_of x context.children) began (Rests began) moved u
        → IsSaved site running.whole u v (workspace_of process) kept → StandsNow site x (Runs goes_on_with) v s'
        → HasBegun p c s n x k s'
    run_begun u v s' aligned come saved stands =
        record {
          t = moved;
          store' = d.store';
          on = on;
          told = told;
          child = child_of x context.children;
          home = running.home;
          priority = priority_of process;
          small = omega arith;
          workspace = workspace_of process;
          aligned = eqb-true _ _ aligned;
          address = address;
          u = u;
          v = v;
          come = come;
          saved = saved;
          context = goes_on_with;
          goes = stands;
          registers = pop registers;
          same_choice = refl;
          knows = record {
            priority = knows.priority;
            wptr = knows.wptr;
            iptr = knows.iptr;
            a = knows.b;
            b = knows.c;
            c = knows.c;
            nothing_lent = knows.nothing_lent;
          };
          same_wptr = ap (λ (r : Registers). r.wptr) same;
          same_error = ap (λ (r : Registers). r.error) same;
          same_halting = ap (λ (r : Registers). r.halt_on_error) same;
          count = operated.count;
          first = d.store';
          size = on.tells.length ∙ sym (shown_node p c s n x k).size;
          cells = λ j h. refl;
          word = ap (word_at d.store') there ∙ sym word ∙ found.1;
        }
      where
        number : ℕ
        number = word_number (word_below (workspace_of process) 1)

        found : (are_known (word_of moved n number).cells ≡ true)
            × (from_le_bytes w32 (shown (word_of moved n number).cells) ≡ address)
        found = known_cells (word_of moved n number).cells address there_is

        there : word_below (workspace_of process) 1 ≡ most_neg + 4 * number
        there = omega (arith, touched.at, touched.above)

        word : from_le_bytes w32 (shown (word_of moved n number).cells) ≡ word_at d.store' (most_neg + 4 * number)
        word = word_known n k.plan.memory moved d.store' number on.tells touched.within found.0

    run_leads : (u v s' : State) → is_aligned (workspace_of process) ≡ true
        → HasCome site (child_of x context.children) began (Rests began) moved u
        → IsSaved site running.whole u v (workspace_of process) kept → StandsNow site x (Runs goes_on_with) v s'
        → HasFew s' n → LeadsTo p c n s'
    unfolding run_begun
    run_leads u v s' aligned come saved stands few =
        operation_leads s' few b d.store' (priority_of process) refl refl refl
        (subst (λ z. run_from (operation_step z (rank running.level) operated) store claims d.store'
        ≡ Ok (
          (
            record (appended (workspace_of process) (priority_of process) operated) { registers = b.registers },
            ran.Instruction,
          ),
          linked (saving (workspace_of process) claims) (last_of (queue operated (priority_of process)))
              (workspace_of process) d.store',
        )) (sym e)
        (runp_runs operated process (workspace_of process) (priority_of process) refl refl store claims aligned
        (new_there s' few b) (room_there s' few b) (passes p c s n x k s' b) (rank running.level) d.store'
        same_process))
      where
        b : HasBegun p c s n x k s'
        b = run_begun u v s' aligned come saved stands

        same_process : registers.a ≡ process
        same_process = let h : process ≡ registers.a = rw a_is at knows.a in sym h

  run_then : o ≡ Runp → After (runs_child site x context) moved Leads
  run_then e =
      known_then context.a _ moved Leads (λ process a_is.
      after_bind (touch_word_at site Reads (word_below (workspace_of process) 1)) _ moved Leads
      (touch_word_at_then site running.whole Reads (word_below (workspace_of process) 1) moved _ (λ touched.
      known_then (known_word (word_of moved n (word_number (word_below (workspace_of process) 1))).cells) _ moved Leads
      (λ address there_is.
      after_bind (starts site (child_of x context.children) (fresh (priority_of process) (workspace_of process)
      address)) _ moved Leads
      (starts_then site p running.whole (child_of x context.children) (fresh (priority_of process)
      (workspace_of process) address) moved _ (λ aligned u v come saved.
      stands_then site p x (Runs (pop_context (with_child context))) v Leads (λ s' stands few.
      run_leads e process address a_is touched there_is u v s' aligned come saved stands few)))))))

  -- by the operation
  pub begins_then : begins_process o ≡ true → After (schedules o site x context) moved Leads
  begins_then begins = by o refl begins
    where
      by : (o' : Operation) → o ≡ o' → begins_process o' ≡ true → After (schedules o site x context) moved Leads
      by Startp e h = subst (λ z. After (schedules z site x context) moved Leads) (sym e) (start_then e)
      by Runp e h = subst (λ z. After (schedules z site x context) moved Leads) (sym e) (run_then e)
      by _ e h = absurd (true≢false (sym h))

pub beginnings_are_seen : BeginningsAreSeen
beginnings_are_seen p c s s' n x o k next begins told few makes =
    after_step p x s s' (λ _ z. HasFew z n → LeadsTo p c n z) makes
    (step_then p c s n x k (λ _ z. HasFew z n → LeadsTo p c n z) (λ i decodes pp t. record {
      goes = λ d e u w.
          absurd (go_not_scheduled o (sym e ∙ one_next (sym (next_is p c s n x k i pp t decodes d) ∙ next)));
      jumps = λ d e u m f still.
          absurd (jumped_not_scheduled o (sym e ∙ one_next (sym (next_is p c s n x k i pp t decodes d) ∙ next)));
      schedules = λ d o' e u m.
          let same : o' ≡ o = one_operation (sym e ∙ one_next (sym (next_is p c s n x k i pp t decodes d) ∙ next)) in
          begins_then p c s n x k i decodes pp t d o' e u m told
          (subst (λ z. begins_process z ≡ true) (sym same) begins);
    })) few
