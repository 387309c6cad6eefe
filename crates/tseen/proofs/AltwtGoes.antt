-- A process goes on after `altwt`.
use Rattle.std.proofs.Common.{pos, Result}
use Rattle.std.proofs.Common.{◌≡◌, ◌≢◌, ℕ, ◌/◌, ◌%◌, ◌<◌, refl, sym, ap, subst, ◌∙◌, Bool, true, false}
use Rattle.std.proofs.Common.{true≢false, length, Ok, arith, ◌⊎◌, inl, inr, Some, None, get_or, ◌^◌}
use Rattle.tword.specs.Words.{word_below}
use Rattle.tword.specs.Claims.{Claims}
use Rattle.tword.specs.Stores.{Store, word_at, with_word}
use Rattle.tword.specs.Actions.{run_from}
use Rattle.tword.specs.Touches.{Writes, word_break, word_place_break}
use Rattle.tcode.specs.declared.instruction.Operation.TheVariants.{Altwt}
use Rattle.tcpu.specs.declared.registers.Registers.{Registers}
use Rattle.tproc.specs.declared.ran.Ran.TheVariants as ran
use Rattle.tproc.specs.Alternatives.{none_selected}
use Rattle.tproc.specs.Channels.{enabling, ready}
use Rattle.tproc.specs.Machine.{Control, Machine, claims_of}
use Rattle.tproc.specs.Hidden.{hidden}
use Rattle.tproc.specs.Steps.{step}
use Rattle.tproc.specs.declared.ran.Ran.{Ran}
use Rattle.tword.specs.declared.breaks.Break.{Break}
use Rattle.tnet.proofs.Puts.{put-same}
use Rattle.tproc.specs.Scheduler.{operation_step}
use Rattle.tproc.proofs.WordsApart.{LiesWord, other_word}
use Rattle.tplan.specs.declared.plan.Plan.{Plan}
use Rattle.tnet.specs.Rendezvous.{Node, Configuration, IsLocal, node_of}
use Rattle.treduction.specs.Plain.{rank}
use Rattle.tprocesses.specs.Places.{Place, Name, WordAt, Sending, Standing}
use Rattle.tprocesses.specs.Values.{Value, Use, Free, Choosing, Choice, Context, Runs, IsWord, IsStand, word_in}
use Rattle.tprocesses.specs.Values.{stand_in}
use Rattle.tprocesses.specs.Values.{amount_in, unknown}
use Rattle.tprocesses.specs.Changes.{used_word}
use Rattle.tprocesses.specs.Touching.{Site, word_number}
use Rattle.tprocesses.specs.Machine.{site_of}
use Rattle.tseen.specs.Choices.{Alternative, alternative_of, alternative_at, HasChoice, IsReady, IsUnready}
use Rattle.tseen.specs.Choices.{unready_word}
use Rattle.tseen.specs.Known.{HasRegisters}
use Rattle.tseen.specs.Shown.{ShowsNode}
use Rattle.tseen.specs.Steps.{IsCurrent, LeadsTo}
use Rattle.tseen.proofs.After.{State}
use Rattle.tseen.proofs.AltwtSteps.{IsUnderWay, no_guard}
use Rattle.tseen.proofs.AtOperation.{IsAtOperation, registers_at, context_at, control_at}
use Rattle.tseen.proofs.Cells.{word_of, use_of, cell, Knows, IsWhole, Tells}
use Rattle.tseen.proofs.Choices.{alternative_with}
use Rattle.tseen.proofs.ChoicePlain.{IsPlainChoice, is_for_choice, plain_gone}
use Rattle.tseen.proofs.ChoiceShown.{gone_leads}
use Rattle.tseen.proofs.Finished.{is_stand_of, StandsNow}
use Rattle.tseen.proofs.OwnChoice.{own, has, lies, no_other, other_word as other_state, passes}
use Rattle.tseen.proofs.Performed.{word_passes}
use Rattle.tseen.proofs.Running.{RunsThere}
use Rattle.tseen.proofs.Saving.{below}
use Rattle.tseen.proofs.SavedThen.{nothing_known}
use Rattle.tseen.proofs.SetUnknown.{tells_alike, touched_lies}
use Rattle.tseen.proofs.Stepped.{shown_node, there}
use Rattle.tseen.proofs.Stored.{GoesOn, goes_on_more, knows_same, permits_on, set_both}
use Rattle.tseen.proofs.Writing.{IsWordTouched}
use Rattle.tseen.proofs.Written.{is_word_of}
use Rattle.tseen.proofs.Yielding.{other_cell_stays}

-- a memory is told where words are as before, or nothing is known of them
pub tells_less : (s t : State) (n size : ℕ) (store : Store)
    → ((j : ℕ) → (t (WordAt n j) ≡ s (WordAt n j)) ⊎ ((used : Use) × (t (WordAt n j) ≡ IsWord (used_word used))))
    → Tells s n size store → Tells t n size store
tells_less s t n size store each tells =
    record {
      length = tells.length;
      words = λ j h. word j (each j) (tells.words j h);
      cells = λ i h. cell_is i (each (i / 4)) (tells.cells i h);
    }
  where
    word : (j : ℕ) → (t (WordAt n j) ≡ s (WordAt n j)) ⊎ ((used : Use) × (t (WordAt n j) ≡ IsWord (used_word used)))
        → IsWhole (s (WordAt n j)) → IsWhole (t (WordAt n j))
    word j (inl e) h = subst IsWhole (sym e) h
    word j (inr (used, e)) h = record { word = used_word used; is = e; four = refl }

    cell_is : (i : ℕ)
        → (t (WordAt n (i / 4)) ≡ s (WordAt n (i / 4)))
        ⊎ ((used : Use) × (t (WordAt n (i / 4)) ≡ IsWord (used_word used)))
        → Knows (cell s n i) (get_or store i None) → Knows (cell t n i) (get_or store i None)
    cell_is i (inl e) h =
        subst (λ (v : Value). Knows (get_or (word_in v).cells (i % 4) None) (get_or store i None)) (sym e) h
    cell_is i (inr (used, e)) h =
        nothing_known t n i (get_or store i None) (ap (λ (v : Value). (word_in v).cells) e)

module _ (p : Plan) (c : Configuration) (s : State) (n : ℕ) (x : Name) (k : IsCurrent p c s n x) (u : State)
    (a : IsAtOperation p c s n x k Altwt u) (choice : Choice) (v : State)
    (way : IsUnderWay (site_of n k.plan) (there p c s n x k).whole p x (context_at p c s n x k a.size) choice u v) where
  abbrev m : Control
  m = k.node.machine.control

  abbrev store : Store
  store = k.node.machine.store

  abbrev claims : Claims
  claims = claims_of m

  abbrev running : RunsThere s n k.plan k.node x
  running = there p c s n x k

  abbrev shown : ShowsNode s n k.plan (k.shows.named n) (k.shows.sent n) k.node
  shown = shown_node p c s n x k

  abbrev site : Site
  site = site_of n k.plan

  abbrev pub w : ℕ
  w = m.registers.wptr

  abbrev address : ℕ
  address = word_below w 3

  abbrev context : Context
  context = context_at p c s n x k a.size

  abbrev after : Registers
  after = registers_at p c s n x k a.size

  abbrev count : ℕ
  count = (control_at p c s n x k Altwt a.size).count

  abbrev touched : IsWordTouched site running.whole u Writes w
  touched = way.written.touched

  -- the store once no guard is chosen
  abbrev pub last : Store
  last = with_word store w none_selected

  pub on : GoesOn n k.plan.memory s v store last
  on =
      goes_on_more n k.plan.memory s u v store store last a.on
      (set_both n k.plan.memory u v store w (no_guard site running.whole p x) (no_guard site running.whole p x)
      a.on.tells way.written.keeps way.written.set refl
      (λ j h. knows_same (get_or (no_guard site running.whole p x) j None))
      (λ i b d. subst (λ j. use_of u n j ≡ Free) (omega (arith, b, d, touched.at)) touched.touched.free)
      (inr (touched.above, omega (arith, touched.at, touched.above, touched.within))))

  pub it : HasChoice s n m.links store x (own p c s n x k choice way.is)
  it = has p c s n x k choice way.is

  choosing_free : Choosing ≡ Free → ⊥
  choosing_free e = cc

  pub own_free : use_of s n (word_number w) ≡ Free
  own_free = sym (a.on.keeps.uses (word_number w)) ∙ touched.touched.free

  -- the word of the state is another one
  pub not_own : word_number w ≢ below w 3
  not_own e = choosing_free (sym it.used ∙ ap (use_of s n) (sym e) ∙ own_free)

  pub state_before : v (WordAt n (below w 3)) ≡ s (WordAt n (below w 3))
  state_before = on.keeps.kept (below w 3) (λ h. choosing_free (sym it.used ∙ h))

  pub lies_own : LiesWord (length store) w
  lies_own = subst (λ z. LiesWord z w) (sym shown.size) (touched_lies site running.whole u Writes w touched)

  pub other_cell : (i : ℕ) → i / 4 ≢ word_number w → get_or last i None ≡ get_or store i None
  other_cell i h = other_cell_stays store w none_selected i lies_own h

  pub state_word_stays : word_at last address ≡ word_at store address
  state_word_stays =
      other_word store w none_selected address lies_own (lies p c s n x k choice way.is)
      (λ e. not_own (ap word_number e))

  -- the checks pass
  pub may_write : word_break (length store) claims Writes w ≡ None
  may_write =
      subst (λ z. word_break z claims Writes w ≡ None) (sym shown.size)
      (word_passes site running.whole claims u Writes w (permits_on s u n claims a.on.keeps running.permits) touched)

  pub may_take : word_break (length store) claims Writes address ≡ None
  may_take =
      passes p c s n x k choice way.is (ap amount_in (sym (on.keeps.others (Sending n (below w 3)) refl)) ∙ way.unsent)

  -- the process has gone on: the words below its workspace are for programs, and of its alternative
  pub record HasGoneOn (z : State) (d : Context) (skips : Bool) : Type 0 where
    pub stands : z (Standing x) ≡ IsStand (Runs d)
    pub choice_is : d.choice ≡ Some (record { skips = skips })
    pub knows : HasRegisters running.level after d
    pub tells : Tells z n k.plan.memory last
    pub used : use_of z n (below w 3) ≡ Choosing
    pub unseen : (word_of z n (below w 3)).cells ≡ unknown
    pub words : (j : ℕ) → (z (WordAt n j) ≡ v (WordAt n j))
        ⊎ ((is_for_choice (use_of s n j) ≡ true) × (is_for_choice (use_of z n j) ≡ true))
    pub states : (j : ℕ) → use_of s n j ≡ Choosing → j ≢ below w 3 → z (WordAt n j) ≡ v (WordAt n j)
    pub others : (q : Place) → is_word_of n q ≡ false → is_stand_of x q ≡ false → z q ≡ s q
    pub told : ((word_at last address ≡ ready) × IsReady z n m.links x skips)
        ⊎ ((word_at last address ≡ enabling) × IsUnready z n m.links x skips)

  module _ (z : State) (d : Context) (skips : Bool) (g : HasGoneOn z d skips)
      (is_ready : word_at store address ≡ ready) where
    abbrev new : Alternative
    new = record { skips = skips; wptr = d.wptr; priority = d.priority; runs = true; waits = false }

    same_wptr : d.wptr ≡ w
    same_wptr = g.knows.wptr

    new_is : alternative_at z n x ≡ Some new
    new_is =
        ap (λ (y : Value). alternative_of (stand_in y)) g.stands
        ∙ alternative_with true false d (record { skips = skips }) g.choice_is

    is_new : (b : Alternative) → alternative_at z n x ≡ Some b → b ≡ new
    is_new b e = one_is (sym e ∙ new_is)
      where
        one_is : {b b' : Alternative} → Some b ≡ Some b' → b ≡ b'
        one_is g = cc

    new_choice : HasChoice z n m.links last x new
    new_choice =
        record {
          small = (
            subst (λ y. y < 2) (sym g.knows.priority) running.small,
            subst (λ y. y < 2 ^ 32) (sym same_wptr) it.small.1,
          );
          placed = subst (λ y. word_place_break (length last) (word_below y 3) ≡ None) (sym same_wptr)
              (subst (λ y. word_place_break y address ≡ None) (sym (g.tells.length ∙ sym shown.size)) it.placed);
          used = subst (λ y. use_of z n (below y 3) ≡ Choosing) (sym same_wptr) g.used;
          unseen = subst (λ y. (word_of z n (below y 3)).cells ≡ unknown) (sym same_wptr) g.unseen;
          unsent = subst (λ y. amount_in (z (Sending n (below y 3))) ≡ pos 0) (sym same_wptr)
              (ap amount_in (g.others (Sending n (below w 3)) refl refl) ∙ it.unsent);
          state = subst (λ y. ((word_at last (word_below y 3) ≡ ready) × IsReady z n m.links x skips)
              ⊎ ((word_at last (word_below y 3) ≡ enabling) × IsUnready z n m.links x skips)) (sym same_wptr) g.told;
          unready = λ e. absurd (true≢false (sym e));
        }

    plain : IsPlainChoice p c s n x k z after last d
    plain =
        record {
          tells = g.tells;
          stands = g.stands;
          knows = g.knows;
          same_wptr = refl;
          same_error = refl;
          same_halting = refl;
          others = g.others;
          words = λ j. words j (g.words j) (is_for_choice (use_of s n j)) refl;
          only = λ i h. other_cell i (λ e. true≢false (sym (ap is_for_choice (ap (use_of s n) e ∙ own_free)) ∙ h));
          states = λ j e f. g.states j e f ∙ on.keeps.kept j (λ h. choosing_free (sym e ∙ h));
          state_cells = λ i e f. other_cell i (λ h. choosing_free (sym e ∙ ap (use_of s n) h ∙ own_free));
          own_choice = λ b e. subst (HasChoice z n m.links last x) (sym (is_new b e)) new_choice;
          own_apart = λ y b f home e same b' i. no_other p c s n x k choice way.is y b f home e same;
          own_word = other_state p c s n x k choice way.is;
          own_keeps = λ e h. (new, new_is);
        }
      where
        words : (j : ℕ) → (z (WordAt n j) ≡ v (WordAt n j))
            ⊎ ((is_for_choice (use_of s n j) ≡ true) × (is_for_choice (use_of z n j) ≡ true))
            → (b : Bool) → is_for_choice (use_of s n j) ≡ b → (z (WordAt n j) ≡ s (WordAt n j))
            ⊎ ((is_for_choice (use_of s n j) ≡ true) × (is_for_choice (use_of z n j) ≡ true))
        words j (inr e) b f = inr e
        words j (inl e) true f =
            inr (f, ap is_for_choice (ap (λ (y : Value). (word_in y).used) e ∙ on.keeps.uses j) ∙ f)
        words j (inl e) false f =
            inl (e ∙ on.keeps.kept j (λ h. true≢false (sym (ap is_for_choice h) ∙ f)))

    runs : run_from (operation_step Altwt (rank running.level) (control_at p c s n x k Altwt a.size)) store claims store
        ≡ Ok ((record m { registers = after; count = count }, ran.Instruction), last)
    unfolding operation_step
    runs = rw (may_write, may_take, is_ready) refl

    altwt_steps : step k.node.machine
        ≡ Ok (record { control = record m { registers = after; count = count }; store = last }, ran.Instruction)
    altwt_steps = a.steps (record m { registers = after; count = count }) last runs

    pub altwt_goes : LeadsTo p c n z
    altwt_goes =
        gone_leads p c s n x k z after count m.links last d (plain_gone p c s n x k z after count last d plain)
        altwt_steps

    -- the links are as they were
    pub links_there : (node : Node) → node_of altwt_goes.configuration n ≡ Some node
        → node.machine.control.links ≡ m.links
    links_there node at =
        ap (λ (z : Node). z.machine.control.links)
        (one_node (sym at ∙ ap (λ w. node_of w n) local.after ∙ put-same c n now local.node local.here))
        ∙ ap (λ (z : Machine). z.control.links)
        (one_machine (sym local.steps ∙ ap (λ (z : Node). step z.machine) same ∙ altwt_steps))
      where
        local : IsLocal c n altwt_goes.configuration
        local = altwt_goes.local

        now : Node
        now = record local.node { machine = hidden local.machine }

        one_node : {b b' : Node} → Some b ≡ Some b' → b ≡ b'
        one_node e = cc

        same : local.node ≡ k.node
        same = one_node (sym local.here ∙ k.here)

        one_machine : {b b' : Machine} {r r' : Ran}
            → ◌≡◌ {A = Result (Machine × Ran) Break} (Ok (b, r)) (Ok (b', r')) → b ≡ b'
        one_machine {b} {b'} {r} {r'} e =
            let both : ◌≡◌ {A = Machine × Ran} (b, r) (b', r') = cc in ap (λ (z : Machine × Ran). z.0) both

  -- the state of an alternative that need not wait
  pub skipping_ready : choice.skips ≡ true → word_at store address ≡ ready
  skipping_ready e = by it.state
    where
      by : ((word_at store address ≡ ready) × IsReady s n m.links x choice.skips)
          ⊎ ((word_at store address ≡ unready_word false) × IsUnready s n m.links x choice.skips)
          → word_at store address ≡ ready
      by (inl f) = f.0
      by (inr f) = absurd (true≢false (sym e ∙ f.1.0))

  -- so `altwt` is seen in one that need not wait
  pub skipping_leads : choice.skips ≡ true → (z : State) → StandsNow site x (Runs context) v z → LeadsTo p c n z
  skipping_leads e z now =
      altwt_goes z context choice.skips (record {
        stands = now.is;
        choice_is = way.is;
        knows = record {
          priority = running.registers.priority;
          wptr = refl;
          iptr = refl;
          a = running.registers.a;
          b = running.registers.b;
          c = running.registers.c;
          nothing_lent = running.registers.nothing_lent;
        };
        tells = tells_alike v z n k.plan.memory last (λ j. now.others (WordAt n j) refl) on.tells;
        used = ap (λ (y : Value). (word_in y).used) (now.others (WordAt n (below w 3)) refl) ∙ way.choosing;
        unseen = ap (λ (y : Value). (word_in y).cells) (now.others (WordAt n (below w 3)) refl ∙ state_before)
            ∙ it.unseen;
        words = λ j. inl (now.others (WordAt n j) refl);
        states = λ j f h. now.others (WordAt n j) refl;
        others = λ q f h. now.others q h ∙ on.keeps.others q f;
        told = inl (state_word_stays ∙ skipping_ready e, inl e);
      }) (skipping_ready e)
