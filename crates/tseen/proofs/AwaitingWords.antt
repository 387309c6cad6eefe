-- A process waits for its alternative: what its processor does, and the words after it.
use Rattle.std.proofs.Common.{◌≡◌, ◌≢◌, ℕ, ◌+◌, ◌/◌, ◌%◌, ◌<◌, refl, sym, ap, subst, ◌∙◌, true, false}
use Rattle.std.proofs.Common.{true≢false, length, Ok, arith, ◌⊎◌, inl, inr, None, get_or, Contains, List}
use Rattle.std.proofs.Common.{[], ◌∷◌, ◌++◌, map, append_assoc}
use Rattle.std.specs.Prelude.{◌==◌}
use Rattle.std.proofs.lemmas.Bool.{eq-eqb, eqb-true, or_left}
use Rattle.std.proofs.lemmas.List.{map_push}
use Rattle.std.proofs.lemmas.List.Elements.{All-contains, Contains-push_cases}
use Rattle.tword.specs.Actions.{is_slot, run_from, with_saved_word}
use Rattle.tword.specs.Claims.{Claims, has_saved, saving}
use Rattle.tword.specs.Stores.{Store, word_at, with_word}
use Rattle.tword.specs.Touches.{Writes, word_break, deschedule_break}
use Rattle.tword.specs.Words.{word_below}
use Rattle.tcode.specs.declared.instruction.Operation.TheVariants.{Altwt}
use Rattle.tcpu.specs.declared.registers.Registers.{Registers}
use Rattle.tproc.specs.declared.ran.Ran.TheVariants as ran
use Rattle.tproc.specs.declared.waiter.Reason.TheVariants as reason
use Rattle.tproc.specs.Alternatives.{none_selected, awaits_choice}
use Rattle.tproc.specs.Channels.{enabling, waiting_state}
use Rattle.tproc.specs.Hidden.{hidden}
use Rattle.tproc.specs.Machine.{Control, Machine, claims_of, descheduled, workspace_of}
use Rattle.tproc.specs.Queues.{waiting_for}
use Rattle.tproc.specs.Scheduler.{operation_step}
use Rattle.tproc.specs.Steps.{step}
use Rattle.tproc.proofs.WordsApart.{LiesWord, length-with_word, other_word, word_set}
use Rattle.tplan.specs.declared.plan.Plan.{Plan}
use Rattle.tnet.specs.Rendezvous.{Configuration}
use Rattle.treduction.specs.Plain.{rank}
use Rattle.tprocesses.specs.Places.{Name, WordAt, Sending}
use Rattle.tprocesses.specs.Values.{Value, Use, Free, Saved, Receiving, Engaged, Choosing, Awaiting, Last, Spoilt}
use Rattle.tprocesses.specs.Values.{Choice}
use Rattle.tprocesses.specs.Values.{IsWord, word_in}
use Rattle.tprocesses.specs.Changes.{used_word}
use Rattle.tprocesses.specs.Touching.{Site, word_number}
use Rattle.tprocesses.specs.Machine.{site_of, awaits_successor}
use Rattle.tseen.specs.Choices.{IsUnready}
use Rattle.tseen.specs.Shown.{ShowsNode}
use Rattle.tseen.specs.Steps.{IsCurrent}
use Rattle.tseen.specs.Words.{AreMarked, AreSavedWords, is_set_aside}
use Rattle.tseen.proofs.After.{State}
use Rattle.tseen.proofs.AltwtGoes.{tells_less, last, on, own_free, lies_own, other_cell, may_write, may_take}
use Rattle.tseen.proofs.AltwtMeets.{by_below, first_free, second_free, third_choosing, far}
use Rattle.tseen.proofs.AltwtSteps.{IsUnderWay, IsWaiting}
use Rattle.tseen.proofs.AtOperation.{IsAtOperation, registers_at, context_at, control_at}
use Rattle.tseen.proofs.AwaitedHalves.{restored}
use Rattle.tseen.proofs.Cells.{use_of, Tells}
use Rattle.tseen.proofs.ChoicePlain.{is_for_choice}
use Rattle.tseen.proofs.Claimed.{input_received}
use Rattle.tseen.proofs.OwnChoice.{lies}
use Rattle.tseen.proofs.Performed.{word_passes}
use Rattle.tseen.proofs.Running.{RunsThere}
use Rattle.tseen.proofs.Saving.{below}
use Rattle.tseen.proofs.SetUnknown.{set_unknown, touched_lies}
use Rattle.tseen.proofs.Staying.{saved_words, saved_words_stay, marks_from, used_one}
use Rattle.tseen.proofs.Stepped.{shown_node, there, hidden_if}
use Rattle.tseen.proofs.Stored.{GoesOn, permits_on}
use Rattle.tseen.proofs.TakenWords.{rank_is}
use Rattle.tseen.proofs.Touched.{Permits}
use Rattle.tseen.proofs.Writing.{IsWordTouched}
use Rattle.tseen.proofs.Yielding.{other_cell_stays}

-- the store once a process waits for its alternative
abbrev pub waiting_store : Store → (w iptr : ℕ) → Store
waiting_store store w iptr =
    with_word (with_word (with_word store w none_selected) (word_below w 3) waiting_state) (word_below w 1) iptr

-- what a processor does whose process has to wait
waits_run : (process : ℕ) (m : Control) (old new : Store) (claims : Claims)
    → word_break (length old) claims Writes m.registers.wptr ≡ None
    → word_break (length old) claims Writes (word_below m.registers.wptr 3) ≡ None
    → word_at old (word_below m.registers.wptr 3) ≡ enabling
    → deschedule_break (length old) claims m.registers.wptr ≡ None
    → run_from (awaits_choice process m) old claims new
    ≡ Ok (
      (waiting_for process reason.Chooses m, ran.Instruction),
      waiting_store new m.registers.wptr m.registers.iptr,
    )
waits_run process m old new claims write take unready desch =
    rw (write, take, unready) (rw desch (ap (λ (z : Store). Ok (
      (waiting_for process reason.Chooses m, ran.Instruction),
      z,
    )) (ap (λ (z : Store). with_saved_word z C w 1 m.registers.iptr)
    (set_own 3 (with_word new w none_selected) waiting_state refl)
    ∙ set_own 1 (with_word (with_word new w none_selected) (word_below w 3) waiting_state) m.registers.iptr refl)))
  where
    w : ℕ
    w = m.registers.wptr

    C : Claims
    C = saving m.registers.wptr claims

    set_own : (i : ℕ) (store : Store) (value : ℕ) → is_slot i ≡ true
        → with_saved_word store C w i value ≡ with_word store (word_below w i) value
    set_own i store value e =
        rw (e, or_left (w == w) (has_saved claims w) (eq-eqb w w refl)) refl

aside_not_choice : (u : Use) → is_set_aside u ≡ true → is_for_choice u ≡ false
aside_not_choice Saved e = refl
aside_not_choice Awaiting e = refl
aside_not_choice Free e = absurd (true≢false (sym e))
aside_not_choice Engaged e = absurd (true≢false (sym e))
aside_not_choice Choosing e = absurd (true≢false (sym e))
aside_not_choice Receiving e = refl
aside_not_choice (Last q) e = refl
aside_not_choice Spoilt e = refl

-- the current process waits for its alternative, in which no message is sent
pub record Awaits (p : Plan) (c : Configuration) (s : State) (n : ℕ) (x : Name) (k : IsCurrent p c s n x) (s' : State)
    : Type 0 where
  pub before : State
  pub operation : IsAtOperation p c s n x k Altwt before
  pub choice : Choice
  pub written : State
  pub way : IsUnderWay (site_of n k.plan) (there p c s n x k).whole p x (context_at p c s n x k operation.size) choice
      before written
  pub waits : IsWaiting (site_of n k.plan) (there p c s n x k).whole p x (context_at p c s n x k operation.size) written
      s'
  pub state : word_at k.node.machine.store (word_below k.node.machine.control.registers.wptr 3) ≡ enabling
  pub unready : IsUnready s n k.node.machine.control.links x choice.skips

module _ (p : Plan) (c : Configuration) (s : State) (n : ℕ) (x : Name) (k : IsCurrent p c s n x) (s' : State)
    (h : Awaits p c s n x k s') where
  abbrev m : Control
  m = k.node.machine.control

  abbrev store : Store
  store = k.node.machine.store

  abbrev claims : Claims
  claims = claims_of m

  abbrev running : RunsThere s n k.plan k.node x
  running = there p c s n x k

  abbrev shown : ShowsNode s n k.plan (k.shows.named n) (k.shows.sent n) k.node
  shown = shown_node p c s n x k

  abbrev site : Site
  site = site_of n k.plan

  abbrev w : ℕ
  w = m.registers.wptr

  abbrev address : ℕ
  address = word_below w 3

  abbrev after : Registers
  after = registers_at p c s n x k h.operation.size

  abbrev v : State
  v = h.written

  -- the state, with the halves as they were
  abbrev pub r : State
  r = restored s s'

  went : GoesOn n k.plan.memory s v store (last p c s n x k h.before h.operation h.choice v h.way)
  went = on p c s n x k h.before h.operation h.choice v h.way

  pub one_free : use_of s n (below w 1) ≡ Free
  one_free = first_free p c s n x k h.before h.operation h.choice v h.way s' h.waits

  pub two_free : use_of s n (below w 2) ≡ Free
  two_free = second_free p c s n x k h.before h.operation h.choice v h.way s' h.waits

  pub three_used : use_of s n (below w 3) ≡ Choosing
  three_used = third_choosing p c s n x k h.before h.operation h.choice v h.way s' h.waits

  pub here_free : use_of s n (word_number w) ≡ Free
  here_free = own_free p c s n x k h.before h.operation h.choice v h.way

  -- its descriptor
  abbrev pub process : ℕ
  process = w + rank running.level

  pub aligned : w % 4 ≡ 0
  aligned = eqb-true _ _ k.steady.placed.words.aligned

  pub small : rank running.level < 2
  small = omega (arith, rank_is running.level running.small, running.small)

  pub own_workspace : workspace_of process ≡ w
  own_workspace = omega (arith, aligned, small)

  -- the checks pass
  permits : Permits v n claims
  permits = permits_on s v n claims went.keeps running.permits

  word_may : (b : ℕ) → IsWordTouched site running.whole v Writes b → word_break (length store) claims Writes b ≡ None
  word_may b t =
      subst (λ z. word_break z claims Writes b ≡ None) (sym shown.size)
      (word_passes site running.whole claims v Writes b permits t)

  desch : deschedule_break (length store) claims w ≡ None
  unfolding deschedule_break
  desch =
      let two : word_break (length store) claims Writes (word_below w 2) ≡ None =
      word_may (word_below w 2) h.waits.touched_two in
      rw (may_take p c s n x k h.before h.operation h.choice v h.way, two)
      (word_may (word_below w 1) h.waits.touched_one)

  -- the machine after the step
  abbrev pub made : Machine
  made =
      record {
        control = waiting_for process reason.Chooses (control_at p c s n x k Altwt h.operation.size);
        store = waiting_store store w after.iptr;
      }

  pub stepped : step k.node.machine ≡ Ok (made, ran.Instruction)
  unfolding operation_step
  stepped =
      h.operation.steps made.control made.store
      (waits_run process (control_at p c s n x k Altwt h.operation.size) store store claims
      (may_write p c s n x k h.before h.operation h.choice v h.way)
      (may_take p c s n x k h.before h.operation h.choice v h.way) h.state desch)

  pub desch_now : descheduled made.control ≡ descheduled m ++ w ∷ []
  desch_now =
      ap (λ (z : List ℕ). (m.high ++ m.low) ++ z) (map_push (λ y. workspace_of y.process) m.waiting (record {
        process = process;
        reason = reason.Chooses;
      }))
      ∙ sym (append_assoc (m.high ++ m.low) (map (λ y. workspace_of y.process) m.waiting)
      (workspace_of process ∷ []))
      ∙ ap (λ b. descheduled m ++ b ∷ []) own_workspace

  -- the words that are set
  lies_one : LiesWord k.plan.memory (word_below w 1)
  lies_one = touched_lies site running.whole v Writes (word_below w 1) h.waits.touched_one

  lies_three : LiesWord k.plan.memory address
  lies_three = subst (λ z. LiesWord z address) shown.size (lies p c s n x k h.choice h.way.is)

  lies_here : LiesWord k.plan.memory w
  lies_here =
      subst (λ z. LiesWord z w) shown.size (lies_own p c s n x k h.before h.operation h.choice v h.way)

  abbrev first : Store
  first = with_word store w none_selected

  abbrev second : Store
  second = with_word first address waiting_state

  first_size : length first ≡ k.plan.memory
  first_size = went.tells.length

  second_size : length second ≡ k.plan.memory
  second_size =
      length-with_word first address waiting_state 0 (subst (λ z. LiesWord z address) (sym first_size) lies_three)
      ∙ first_size

  -- what the words are now
  pub word_three : (word_in (r (WordAt n (below w 3)))).used ≡ Awaiting
  word_three = ap (λ (z : Value). (word_in z).used) h.waits.three

  pub kept_word : (j : ℕ) → (use_of s n j ≡ Free → ⊥) → j ≢ below w 3 → r (WordAt n j) ≡ s (WordAt n j)
  kept_word =
      by_below w (λ j. (use_of s n j ≡ Free → ⊥) → j ≢ below w 3 → r (WordAt n j) ≡ s (WordAt n j))
      (λ e f. absurd (e one_free)) (λ e f. absurd (e two_free)) (λ e f. absurd (f refl))
      (λ j a b d e f. h.waits.words j a b d ∙ went.keeps.kept j e)

  pub plain_stays : (j : ℕ) → is_for_choice (use_of s n j) ≡ false → r (WordAt n j) ≡ s (WordAt n j)
  plain_stays j e =
      kept_word j (λ f. true≢false (sym (ap is_for_choice f) ∙ e))
      (λ f. true≢false (sym (ap is_for_choice (ap (use_of s n) f ∙ three_used)) ∙ e))

  -- the memory is told
  pub tells_now : Tells r n k.plan.memory made.store
  tells_now =
      set_unknown r n k.plan.memory second (word_below w 1) after.iptr
      (set_unknown r n k.plan.memory first address waiting_state
      (tells_less v r n k.plan.memory first
      (by_below w (λ j. (r (WordAt n j) ≡ v (WordAt n j))
      ⊎ ((used : Use) × (r (WordAt n j) ≡ IsWord (used_word used)))) (inr (Saved, h.waits.one))
      (inr (Saved, h.waits.two)) (inr (Awaiting, h.waits.three)) (λ j a b d. inl (h.waits.words j a b d)))
      went.tells) lies_three (ap (λ (z : Value). (word_in z).cells) h.waits.three))
      lies_one (ap (λ (z : Value). (word_in z).cells) h.waits.one)

  -- a cell of any other word
  pub cell_stays : (i : ℕ) → i / 4 ≢ word_number w → i / 4 ≢ below w 3 → i / 4 ≢ below w 1
      → get_or made.store i None ≡ get_or store i None
  cell_stays i a b d =
      other_cell_stays second (word_below w 1) after.iptr i
      (subst (λ z. LiesWord z (word_below w 1)) (sym second_size) lies_one) d
      ∙ other_cell_stays first address waiting_state i (subst (λ z. LiesWord z address) (sym first_size) lies_three) b
      ∙ other_cell p c s n x k h.before h.operation h.choice v h.way i a

  -- any other word
  pub word_stays : (b : ℕ) → LiesWord k.plan.memory b → (use_of s n (word_number b) ≡ Free → ⊥)
      → word_number b ≢ below w 3 → word_at made.store b ≡ word_at store b
  word_stays b l e f =
      other_word second (word_below w 1) after.iptr b
      (subst (λ z. LiesWord z (word_below w 1)) (sym second_size) lies_one)
      (subst (λ z. LiesWord z b) (sym second_size) l)
      (λ g. e (ap (λ i. use_of s n (word_number i)) (sym g) ∙ one_free))
      ∙ other_word first address waiting_state b (subst (λ z. LiesWord z address) (sym first_size) lies_three)
      (subst (λ z. LiesWord z b) (sym first_size) l) (λ g. f (ap word_number (sym g)))
      ∙ other_word store w none_selected b (subst (λ z. LiesWord z w) (sym shown.size) lies_here)
      (subst (λ z. LiesWord z b) (sym shown.size) l)
      (λ g. e (ap (λ i. use_of s n (word_number i)) (sym g) ∙ here_free))

  -- the saved Iptr, and the state of the alternative
  pub iptr_there : word_at made.store (word_below w 1) ≡ after.iptr
  iptr_there =
      word_set second (word_below w 1) after.iptr
      (subst (λ z. LiesWord z (word_below w 1)) (sym second_size) lies_one) (omega arith)

  pub state_there : word_at made.store address ≡ waiting_state
  state_there =
      other_word second (word_below w 1) after.iptr address
      (subst (λ z. LiesWord z (word_below w 1)) (sym second_size) lies_one)
      (subst (λ z. LiesWord z address) (sym second_size) lies_three)
      (λ g. choosing_free (sym three_used ∙ ap (λ i. use_of s n (word_number i)) (sym g) ∙ one_free))
      ∙ word_set first address waiting_state (subst (λ z. LiesWord z address) (sym first_size) lies_three) (omega arith)
    where
      choosing_free : Choosing ≡ Free → ⊥
      choosing_free e = cc

  -- pending inputs stay hidden
  pub hidden_still : hidden made ≡ made
  hidden_still =
      ap (λ (z : Store). record { control = made.control; store = z })
      (hidden_if m store made.store (λ i g.
      let used : use_of s n (i / 4) ≡ Receiving =
      input_received s n (k.shows.sent n) k.node.machine k.steady.placed shown.marks i g in
      cell_stays i (λ e. not_free (sym used ∙ ap (use_of s n) e ∙ here_free))
      (λ e. not_choosing (sym used ∙ ap (use_of s n) e ∙ three_used))
      (λ e. not_free (sym used ∙ ap (use_of s n) e ∙ one_free))) (ap (λ (z : Machine). z.store) k.steady.hides))
    where
      not_free : Receiving ≡ Free → ⊥
      not_free e = cc

      not_choosing : Receiving ≡ Choosing → ⊥
      not_choosing e = cc

  -- a word that is in use for a channel was so
  pub engaged_was : (j : ℕ) → use_of r n j ≡ Engaged → use_of s n j ≡ Engaged
  engaged_was =
      by_below w (λ j. use_of r n j ≡ Engaged → use_of s n j ≡ Engaged)
      (λ e. absurd (saved_not (sym (ap (λ (z : Value). (word_in z).used) h.waits.one) ∙ e)))
      (λ e. absurd (saved_not (sym (ap (λ (z : Value). (word_in z).used) h.waits.two) ∙ e)))
      (λ e. absurd (awaiting_not (sym word_three ∙ e)))
      (λ j a b d e. sym (went.keeps.uses j) ∙ sym (ap (λ (z : Value). (word_in z).used) (h.waits.words j a b d)) ∙ e)
    where
      saved_not : Saved ≡ Engaged → ⊥
      saved_not e = cc

      awaiting_not : Awaiting ≡ Engaged → ⊥
      awaiting_not e = cc

  -- the claims are marked
  pub saved_of : (b : ℕ) → Contains (descheduled m) b → AreSavedWords s n b
  saved_of b inside = All-contains (AreSavedWords s n) (descheduled m) b shown.marks.saved inside

  -- who has saved words has another workspace
  pub is_new : (b : ℕ) → Contains (descheduled m) b → b ≢ w
  is_new b inside e =
      differ (sym (used_one s n b (saved_of b inside)) ∙ ap (λ z. use_of s n (below z 1)) e ∙ one_free)
    where
      differ : Saved ≡ Free → ⊥
      differ e = cc

  pub marks_now : AreMarked r n (k.shows.sent n) made.control
  marks_now =
      marks_from s r n (k.shows.sent n) (k.shows.sent n) m made.control saved_each (λ l. refl)
      (λ i e. ap (λ (z : Value). (word_in z).used) (plain_stays i (ap is_for_choice e)) ∙ e)
      (λ i. far p c s n x k h.before h.operation h.choice v h.way s' h.waits (Sending n i) refl refl refl
      ∙ shown.marks.outputs i) no_successor shown.marks
    where
      no_successor : (i : ℕ) → awaits_successor (use_of r n i) ≡ false
      no_successor =
          by_below w (λ i. awaits_successor (use_of r n i) ≡ false)
          (ap (λ (z : Value). awaits_successor (word_in z).used) h.waits.one)
          (ap (λ (z : Value). awaits_successor (word_in z).used) h.waits.two)
          (ap (λ (z : Value). awaits_successor (word_in z).used) h.waits.three)
          (λ i a b d. ap (λ (z : Value). awaits_successor (word_in z).used) (h.waits.words i a b d)
          ∙ ap awaits_successor (went.keeps.uses i) ∙ shown.marks.no_successor i)

      own_saved : AreSavedWords r n w
      own_saved =
          saved_words r n w (ap (λ (z : Value). (word_in z).used) h.waits.one)
          (ap (λ (z : Value). (word_in z).used) h.waits.two) (ap is_set_aside word_three)
          (ap (λ (z : Value). (word_in z).cells) h.waits.one) (ap (λ (z : Value). (word_in z).cells) h.waits.two)

      saved_each : (b : ℕ) → Contains (descheduled made.control) b → AreSavedWords r n b
      saved_each b g =
          by (Contains-push_cases (descheduled m) w b (subst (λ (z : List ℕ). Contains z b) desch_now g))
        where
          by : Contains (descheduled m) b ⊎ (w ≡ b) → AreSavedWords r n b
          by (inl f) =
              saved_words_stay s r n b (λ i e. plain_stays i (aside_not_choice (use_of s n i) e)) (saved_of b f)
          by (inr e) = subst (AreSavedWords r n) e own_saved
