-- The first of two processes at an internal channel: what its processor does, and the words after it.
use Rattle.std.proofs.Common.{Bool, true≢false}
use Rattle.tprocesses.specs.Values.{Use}
use Rattle.tseen.proofs.Unclaimed.{aside_not_free, unclaimed_writable}
use Rattle.tseen.specs.Words.{is_set_aside}
use Rattle.std.proofs.Common.{◌≡◌, ◌≢◌, ℕ, ◌+◌, ◌*◌, ◌≤◌, ◌/◌, refl, sym, ap, subst, ◌∙◌, true, false, length, get_or}
use Rattle.std.proofs.Common.{Contains, List, [], ◌∷◌, ◌++◌, map, None, Ok, arith, ◌⊎◌, inl, inr, append_assoc}
use Rattle.std.specs.Prelude.{◌==◌, if◌then◌else◌}
use Rattle.std.proofs.lemmas.Bool.{eq-eqb, or_left}
use Rattle.std.proofs.lemmas.List.{map_push}
use Rattle.std.proofs.lemmas.List.Elements.{Contains-push_cases}
use Rattle.tword.specs.Actions.{Action, answer, is_slot, run_from, with_saved_word, ◌>>◌}
use Rattle.tword.specs.Touches.{word_place_break, Reads, Writes, word_span, word_break, span_break, deschedule_break}
use Rattle.tword.specs.Touches.{claim_break}
use Rattle.tword.specs.Touches.{byte_span}
use Rattle.tword.specs.Claims.{is_input, overlap, saved_words as saved_span, Claims, has_saved, saving}
use Rattle.tword.specs.Words.{most_neg, word_below}
use Rattle.tword.specs.Stores.{Store, word_at, with_word, hiding}
use Rattle.tword.specs.declared.span.Span.{Span}
use Rattle.tcode.specs.declared.instruction.Operation.{Operation}
use Rattle.tcpu.specs.declared.registers.Registers.{Registers}
use Rattle.tproc.specs.Channels.{own_side, Request, internal_message, waits_on_channel, meets, mode_of, reason_for}
use Rattle.tproc.specs.declared.ran.Ran.TheVariants as ran
use Rattle.tproc.specs.Machine.{Control, Machine, claims_of, descheduled, workspace_of}
use Rattle.tproc.specs.Hidden.{hidden}
use Rattle.tproc.specs.Queues.{not_process, waiting_for}
use Rattle.tproc.specs.Steps.{step}
use Rattle.tproc.proofs.WordsApart.{LiesWord, length-with_word, other_word, word_set}
use Rattle.tplan.specs.declared.plan.Plan.{Plan}
use Rattle.tnet.specs.Rendezvous.{Configuration}
use Rattle.tprocesses.specs.Places.{Name, WordAt, Sending}
use Rattle.tprocesses.specs.Values.{Value, Free, Saved, Receiving, Engaged, Context, word_in, amount_in}
use Rattle.tprocesses.specs.Touching.{Site, word_number}
use Rattle.tprocesses.specs.Machine.{site_of, awaits_successor}
use Rattle.tseen.specs.Words.{AreMarked, AreSavedWords}
use Rattle.tseen.specs.Steps.{IsCurrent}
use Rattle.tseen.proofs.TakenWords.{process, request, aligned, small, own_workspace, same_size, lies_one, lies_two}
use Rattle.tseen.proofs.TakenWords.{lies_three, lies_here, not_one, not_two, not_three, by_word, channel_is, one_is}
use Rattle.tseen.proofs.TakenWords.{two_is, three_is, free_now, at, tells_before}
use Rattle.tseen.proofs.Cells.{IsWhole, use_of, Tells}
use Rattle.tseen.proofs.After.{State}
use Rattle.tseen.proofs.Spans.{word_of_number, word_touchable}
use Rattle.tseen.proofs.Touched.{Permits}
use Rattle.tseen.proofs.Stored.{permits_on}
use Rattle.tseen.proofs.Performed.{word_passes, span_passes}
use Rattle.tseen.proofs.Running.{RunsThere}
use Rattle.tseen.proofs.Own.{word_stays}
use Rattle.tseen.proofs.Stepped.{shown_node, there, hidden_if}
use Rattle.tseen.proofs.Saving.{below}
use Rattle.tseen.proofs.Staying.{saved_words, saved_words_stay, marks_from}
use Rattle.tseen.proofs.Yielding.{other_cell_stays}
use Rattle.tseen.proofs.Claimed.{input_received, none_below, saving_permits}
use Rattle.tseen.proofs.SetUnknown.{set_unknown}
use Rattle.tseen.proofs.AtOperation.{registers_at, context_at, control_at}
use Rattle.tseen.proofs.Asked.{side_of, buffer_for, left_by}
use Rattle.tseen.proofs.HalfTaken.{claimed, buffer_touched}
use Rattle.tseen.proofs.Taken.{HasTaken, lies, unspoilt, used_before, first_free, second_free, third_free, saved_of}
use Rattle.tseen.proofs.Taken.{unsent, not_aside, not_received}

-- a word has a saved word, or is in use as a channel
abbrev pub is_firm : Use → Bool
is_firm Saved = true
is_firm Engaged = true
is_firm _ = false

pub firm_not_free : {used : Use} → is_firm used ≡ true → used ≡ Free → ⊥
firm_not_free e f = true≢false (sym e ∙ ap is_firm f)

-- the store after the first of two processes has come
abbrev pub waiting_store : Store → Request → (w iptr : ℕ) → Store
waiting_store store q w iptr =
    with_word (with_word (with_word store q.channel q.process) (word_below w 3) q.buffer) (word_below w 1) iptr

-- what a process does to the channel word and to its own words, and what comes after that
pub own_side_run : {A : Type 0} (q : Request) (m : Control) (next : Action A) (old new : Store) (claims : Claims)
    → deschedule_break (length old) claims m.registers.wptr ≡ None
    → word_break (length old) (saving m.registers.wptr claims) Writes q.channel ≡ None
    → span_break (length old) (saving m.registers.wptr claims) (mode_of q.side)
    (record { start = q.buffer; size = q.length }) ≡ None
    → run_from (own_side q m >> next) old claims new
    ≡ run_from next old (saving m.registers.wptr claims) (waiting_store new q m.registers.wptr m.registers.iptr)
unfolding own_side
own_side_run q m next old new claims desch write touch =
    rw (desch, write, touch) (ap (λ (z : Store). run_from next old C z)
    (ap (λ (z : Store). with_saved_word z C m.registers.wptr 1 m.registers.iptr) (set_own 3
    (with_word new q.channel q.process) q.buffer refl) ∙ set_own 1 (with_word (with_word new q.channel q.process)
    (word_below m.registers.wptr 3) q.buffer) m.registers.iptr refl))
  where
    C : Claims
    C = saving m.registers.wptr claims

    set_own : (i : ℕ) (store : Store) (value : ℕ) → is_slot i ≡ true
        → with_saved_word store C m.registers.wptr i value ≡ with_word store (word_below m.registers.wptr i) value
    set_own i store value e =
        rw (
          e,
          or_left (m.registers.wptr == m.registers.wptr) (has_saved claims m.registers.wptr)
              (eq-eqb m.registers.wptr m.registers.wptr refl),
        ) refl

-- what a processor does whose process is the first
waits_run : (after : Registers) (q : Request) (m : Control) (old new : Store) (claims : Claims)
    → word_break (length old) claims Writes q.channel ≡ None → word_at old q.channel ≡ not_process
    → deschedule_break (length old) claims m.registers.wptr ≡ None
    → word_break (length old) (saving m.registers.wptr claims) Writes q.channel ≡ None
    → span_break (length old) (saving m.registers.wptr claims) (mode_of q.side)
    (record { start = q.buffer; size = q.length }) ≡ None
    → run_from (internal_message after q m) old claims new
    ≡ Ok (
      (waiting_for q.process (reason_for q q.side) m, ran.Instruction),
      waiting_store new q m.registers.wptr m.registers.iptr,
    )
waits_run after q m old new claims take finds desch write touch =
    rw take (ap (λ t. run_from (if t then waits_on_channel q m else meets q.side after q (word_at old q.channel) m) old
    claims new) (eq-eqb (word_at old q.channel) not_process finds)
    ∙ own_side_run q m (answer (waiting_for q.process (reason_for q q.side) m, ran.Instruction)) old new claims desch
    write touch)

module _ (p : Plan) (c : Configuration) (s : State) (n : ℕ) (x : Name) (k : IsCurrent p c s n x) (v : State)
    (h : HasTaken p c s n x k v) where
  abbrev m : Control
  m = k.node.machine.control

  abbrev store : Store
  store = k.node.machine.store

  abbrev claims : Claims
  claims = claims_of m

  abbrev site : Site
  site = site_of n k.plan

  abbrev running : RunsThere s n k.plan k.node x
  running = there p c s n x k

  abbrev o : Operation
  o = h.operation

  abbrev channel : ℕ
  channel = m.registers.b

  abbrev j : ℕ
  j = word_number channel

  abbrev w : ℕ
  w = m.registers.wptr

  abbrev buffer : Span
  buffer = buffer_for o m.registers

  abbrev context : Context
  context = context_at p c s n x k h.size

  abbrev registers : Registers
  registers = registers_at p c s n x k h.size

  abbrev words : (i : ℕ) → 4 * i + 4 ≤ k.plan.memory → IsWhole (h.before (WordAt n i))
  words = h.asked.on.tells.words

  abbrev inside : 4 * j + 4 ≤ k.plan.memory
  inside = (lies p c s n x k v h).2

  abbrev own : ℕ
  own = process p c s n x k v h

  abbrev asks : Request
  asks = request p c s n x k v h

  -- what claims permit
  permits_before : Permits h.before n claims
  permits_before = permits_on s h.before n claims h.asked.on.keeps running.permits

  abbrev claimed_state : State
  claimed_state = claimed site running.whole x context (side_of o) channel buffer h.before

  permits_claimed : Permits claimed_state n claims
  permits_claimed = record { reads = permits_before.reads; writes = permits_before.writes }

  -- a word that is not saved now is none of those below the workspace
  pub outside : (i : ℕ) → i ≢ below w 1 → i ≢ below w 2 → i ≢ below w 3
      → overlap (word_of_number i) (saved_span w) ≡ false
  outside i a b d =
      none_below k.plan.memory w i k.steady.placed.words.wptr
      (omega (arith, k.steady.placed.claimed.size, same_size p c s n x k v h)) (lies_one p c s n x k v h)
      (lies_two p c s n x k v h) (lies_three p c s n x k v h) a b d

  permits_saving : Permits v n (saving w claims)
  permits_saving =
      record {
        reads = λ i e. (let f = free_now p c s n x k v h i e in
            saving_permits claims Reads w i (outside i f.1 f.2 f.3) (running.permits.reads i f.0));
        writes = λ i e z. (let f = free_now p c s n x k v h i e in
            saving_permits claims Writes w i (outside i f.1 f.2 f.3)
            (running.permits.writes i f.0 (sym (ap amount_in (at p c s n x k v h (Sending n i) refl refl refl)) ∙ z)));
      }

  -- the checks pass
  channel_writes : claim_break claims Writes (word_of_number j) ≡ None
  channel_writes =
      unclaimed_writable s n k.plan (k.shows.named n) (k.shows.sent n) k.node (shown_node p c s n x k) k.steady.placed j
      (λ e. true≢false (sym e ∙ not_aside p c s n x k v h)) (not_received p c s n x k v h) (unsent p c s n x k v h)

  same_channel : most_neg + 4 * j ≡ channel
  same_channel = omega (arith, (lies p c s n x k v h).0, (lies p c s n x k v h).1)

  pub take : word_break (length store) claims Writes channel ≡ None
  take =
      word_touchable (length store) claims Writes channel
      (subst (λ z. word_place_break z channel ≡ None) (sym (same_size p c s n x k v h)) h.taken.placed)
      (subst (λ a. claim_break claims Writes (word_span a) ≡ None) same_channel channel_writes)

  pub write : word_break (length store) (saving w claims) Writes channel ≡ None
  write =
      word_touchable (length store) (saving w claims) Writes channel
      (subst (λ z. word_place_break z channel ≡ None) (sym (same_size p c s n x k v h)) h.taken.placed)
      (subst (λ a. claim_break (saving w claims) Writes (word_span a) ≡ None) same_channel
      (saving_permits claims Writes w j (outside j (not_one p c s n x k v h) (not_two p c s n x k v h)
      (not_three p c s n x k v h)) channel_writes))

  pub desch : deschedule_break (length store) claims w ≡ None
  unfolding deschedule_break
  desch =
      let one : word_break k.plan.memory claims Writes (word_below w 1) ≡ None =
      word_passes site running.whole claims claimed_state Writes (word_below w 1) permits_claimed
      h.taken.saved.touched_one in
      let two : word_break k.plan.memory claims Writes (word_below w 2) ≡ None =
      word_passes site running.whole claims claimed_state Writes (word_below w 2) permits_claimed
      h.taken.saved.touched_two in
      let three : word_break k.plan.memory claims Writes (word_below w 3) ≡ None =
      word_passes site running.whole claims claimed_state Writes (word_below w 3) permits_claimed
      h.taken.saved.touched_three in
      rw (same_size p c s n x k v h, three, two) one

  pub touch : span_break (length store) (saving w claims) (mode_of (side_of o)) buffer ≡ None
  touch =
      subst (λ z. span_break z (saving w claims) (mode_of (side_of o)) buffer ≡ None) (sym (same_size p c s n x k v h))
      (span_passes site running.whole (saving w claims) v (mode_of (side_of o)) buffer permits_saving
      h.taken.touched.placed (λ i l.
      buffer_touched site running.whole x context (side_of o) channel buffer h.before v h.taken words inside
      (unspoilt p c s n x k v h) i (h.taken.touched.are.touched i l.from l.to)))

  -- the machine after the step
  abbrev pub made : Machine
  made =
      record {
        control = waiting_for own (reason_for asks (side_of o)) (control_at p c s n x k o h.size);
        store = waiting_store h.laid asks w registers.iptr;
      }

  pub desch_now : descheduled made.control ≡ descheduled m ++ w ∷ []
  desch_now =
      ap (λ (z : List ℕ). (m.high ++ m.low) ++ z) (map_push (λ y. workspace_of y.process) m.waiting (record {
        process = own;
        reason = reason_for asks (side_of o);
      }))
      ∙ sym (append_assoc (m.high ++ m.low) (map (λ y. workspace_of y.process) m.waiting)
      (workspace_of own ∷ []))
      ∙ ap (λ a. descheduled m ++ a ∷ []) (own_workspace p c s n x k v h)

  -- the sizes
  first_size : length (with_word h.laid channel own) ≡ k.plan.memory
  first_size =
      length-with_word h.laid channel own 0
      (subst (λ z. LiesWord z channel) (sym h.asked.on.tells.length) (lies_here p c s n x k v h))
      ∙ h.asked.on.tells.length

  second_size : length (with_word (with_word h.laid channel own) (word_below w 3) asks.buffer) ≡ k.plan.memory
  second_size =
      length-with_word (with_word h.laid channel own) (word_below w 3) asks.buffer 0
      (subst (λ z. LiesWord z (word_below w 3)) (sym first_size) (lies_three p c s n x k v h))
      ∙ first_size

  -- a cell of any other word
  cell_stays : (i : ℕ) → i / 4 ≢ j → i / 4 ≢ below w 3 → i / 4 ≢ below w 1
      → get_or made.store i None ≡ get_or h.laid i None
  cell_stays i a b d =
      other_cell_stays (with_word (with_word h.laid channel own) (word_below w 3) asks.buffer) (word_below w 1)
      registers.iptr i (subst (λ z. LiesWord z (word_below w 1)) (sym second_size) (lies_one p c s n x k v h)) d
      ∙ other_cell_stays (with_word h.laid channel own) (word_below w 3) asks.buffer i
      (subst (λ z. LiesWord z (word_below w 3)) (sym first_size) (lies_three p c s n x k v h)) b
      ∙ other_cell_stays h.laid channel own i
      (subst (λ z. LiesWord z channel) (sym h.asked.on.tells.length) (lies_here p c s n x k v h)) a

  -- the memory is told
  pub tells_now : Tells v n k.plan.memory made.store
  tells_now =
      set_unknown v n k.plan.memory (with_word (with_word h.laid channel own) (word_below w 3) asks.buffer)
      (word_below w 1) registers.iptr
      (set_unknown v n k.plan.memory (with_word h.laid channel own) (word_below w 3) asks.buffer
      (set_unknown v n k.plan.memory h.laid channel own
      (tells_before p c s n x k v h)
      (lies_here p c s n x k v h) (ap (λ (z : Value). (word_in z).cells) (channel_is p c s n x k v h)))
      (lies_three p c s n x k v h) (ap (λ (z : Value). (word_in z).cells) (three_is p c s n x k v h)))
      (lies_one p c s n x k v h) (ap (λ (z : Value). (word_in z).cells) (one_is p c s n x k v h))

  -- another word that was not free stays
  pub unfree_stays : (i : ℕ) → (use_of s n i ≡ Free → ⊥) → i ≢ j → v (WordAt n i) ≡ s (WordAt n i)
  unfree_stays =
      by_word p c s n x k v h (λ i. (use_of s n i ≡ Free → ⊥) → i ≢ j → v (WordAt n i) ≡ s (WordAt n i))
      (λ g e. absurd (e refl)) (λ g e. absurd (g (first_free p c s n x k v h)))
      (λ g e. absurd (g (second_free p c s n x k v h))) (λ g e. absurd (g (third_free p c s n x k v h)))
      (λ i e a b d f g q. e ∙ h.asked.on.keeps.kept i g)

  -- a word in use as a channel is so still
  pub engaged_stays : (i : ℕ) → use_of s n i ≡ Engaged → use_of v n i ≡ Engaged
  engaged_stays =
      by_word p c s n x k v h (λ i. use_of s n i ≡ Engaged → use_of v n i ≡ Engaged)
      (λ e. ap (λ (z : Value). (word_in z).used) (channel_is p c s n x k v h))
      (λ e. absurd (differ (sym (first_free p c s n x k v h) ∙ e)))
      (λ e. absurd (differ (sym (second_free p c s n x k v h) ∙ e)))
      (λ e. absurd (differ (sym (third_free p c s n x k v h) ∙ e)))
      (λ i e a b d f g. ap (λ (z : Value). (word_in z).used) e ∙ used_before p c s n x k v h i ∙ g)
    where
      differ : Free ≡ Engaged → ⊥
      differ e = cc

  -- a word that is in use for a channel is this one, or was so
  pub engaged_was : (i : ℕ) → use_of v n i ≡ Engaged → (i ≡ j) ⊎ (use_of s n i ≡ Engaged)
  engaged_was =
      by_word p c s n x k v h (λ i. use_of v n i ≡ Engaged → (i ≡ j) ⊎ (use_of s n i ≡ Engaged)) (λ e. inl refl)
      (λ e. absurd (differ (sym (ap (λ (z : Value). (word_in z).used) (one_is p c s n x k v h)) ∙ e)))
      (λ e. absurd (differ (sym (ap (λ (z : Value). (word_in z).used) (two_is p c s n x k v h)) ∙ e)))
      (λ e. absurd (differ (sym (ap (λ (z : Value). (word_in z).used) (three_is p c s n x k v h)) ∙ e)))
      (λ i e a b d f g. inr (sym (used_before p c s n x k v h i) ∙ sym (ap (λ (z : Value). (word_in z).used) e) ∙ g))
    where
      differ : Saved ≡ Engaged → ⊥
      differ e = cc

  -- in the store too
  pub word_stays_after : (a : ℕ) → LiesWord k.plan.memory a → (use_of s n (word_number a) ≡ Free → ⊥)
      → word_number a ≢ j → word_at made.store a ≡ word_at store a
  word_stays_after a l g apart =
      other_word (with_word (with_word h.laid channel own) (word_below w 3) asks.buffer) (word_below w 1)
      registers.iptr a (subst (λ z. LiesWord z (word_below w 1)) (sym second_size) (lies_one p c s n x k v h))
      (subst (λ z. LiesWord z a) (sym second_size) l)
      (λ e. g (subst (λ b. use_of s n (word_number b) ≡ Free) e (first_free p c s n x k v h)))
      ∙ other_word (with_word h.laid channel own) (word_below w 3) asks.buffer a
      (subst (λ z. LiesWord z (word_below w 3)) (sym first_size) (lies_three p c s n x k v h))
      (subst (λ z. LiesWord z a) (sym first_size) l)
      (λ e. g (subst (λ b. use_of s n (word_number b) ≡ Free) e (third_free p c s n x k v h)))
      ∙ other_word h.laid channel own a
      (subst (λ z. LiesWord z channel) (sym h.asked.on.tells.length) (lies_here p c s n x k v h))
      (subst (λ z. LiesWord z a) (sym h.asked.on.tells.length) l)
      (λ e. apart (ap word_number (sym e)))
      ∙ word_stays s n k.plan.memory store h.laid a h.asked.on.only (same_size p c s n x k v h) h.asked.on.tells.length
      (omega (arith, l.above, l.within, l.aligned)) (omega (arith, l.above, l.within, l.aligned)) g

  -- the channel word, and the saved Iptr
  pub word_there : word_at made.store channel ≡ own
  word_there =
      other_word (with_word (with_word h.laid channel own) (word_below w 3) asks.buffer) (word_below w 1)
      registers.iptr channel (subst (λ z. LiesWord z (word_below w 1)) (sym second_size) (lies_one p c s n x k v h))
      (subst (λ z. LiesWord z channel) (sym second_size) (lies_here p c s n x k v h))
      (λ e. not_one p c s n x k v h (ap word_number (sym e)))
      ∙ other_word (with_word h.laid channel own) (word_below w 3) asks.buffer channel
      (subst (λ z. LiesWord z (word_below w 3)) (sym first_size) (lies_three p c s n x k v h))
      (subst (λ z. LiesWord z channel) (sym first_size) (lies_here p c s n x k v h))
      (λ e. not_three p c s n x k v h (ap word_number (sym e)))
      ∙ word_set h.laid channel own
      (subst (λ z. LiesWord z channel) (sym h.asked.on.tells.length) (lies_here p c s n x k v h))
      (omega (arith, (aligned p c s n x k v h), (small p c s n x k v h), k.steady.placed.words.wptr))

  pub iptr_there : word_at made.store (word_below w 1) ≡ registers.iptr
  iptr_there =
      word_set (with_word (with_word h.laid channel own) (word_below w 3) asks.buffer) (word_below w 1)
      registers.iptr (subst (λ z. LiesWord z (word_below w 1)) (sym second_size) (lies_one p c s n x k v h))
      (omega arith)

  -- pending inputs stay hidden
  pub received_stays : (i : ℕ) → use_of s n (i / 4) ≡ Receiving → get_or made.store i None ≡ get_or store i None
  received_stays i used =
      cell_stays i (λ e. not_received p c s n x k v h (sym (ap (use_of s n) e) ∙ used))
      (λ e. not_free (sym used ∙ ap (use_of s n) e ∙ third_free p c s n x k v h))
      (λ e. not_free (sym used ∙ ap (use_of s n) e ∙ first_free p c s n x k v h))
      ∙ h.asked.on.only i (λ e. not_free (sym used ∙ e))
    where
      not_free : Receiving ≡ Free → ⊥
      not_free e = cc

  pub hidden_with : (last : Store)
      → ((i : ℕ) → use_of s n (i / 4) ≡ Receiving → get_or last i None ≡ get_or store i None)
      → hiding (λ a. is_input claims (byte_span a)) last ≡ last
  hidden_with last stays =
      hidden_if m store last (λ i g. stays i (input_received s n (k.shows.sent n) k.node.machine k.steady.placed
      (shown_node p c s n x k).marks i g)) (ap (λ (z : Machine). z.store) k.steady.hides)

  pub hidden_still : hidden made ≡ made
  hidden_still =
      ap (λ (z : Store). record { control = made.control; store = z }) (hidden_with made.store received_stays)

  -- the claims are marked
  pub marks_now : AreMarked v n (k.shows.sent n) made.control
  marks_now =
      marks_from s v n (k.shows.sent n) (k.shows.sent n) m made.control saved_each (λ l. refl)
      (λ i e. ap (λ (z : Value). (word_in z).used) (unfree_stays i (λ f. not_free (sym e ∙ f))
      (λ f. not_received p c s n x k v h (sym (ap (use_of s n) f) ∙ e))) ∙ e)
      (λ i. at p c s n x k v h (Sending n i) refl refl refl ∙ (shown_node p c s n x k).marks.outputs i)
      no_successor (shown_node p c s n x k).marks
    where
      not_free : Receiving ≡ Free → ⊥
      not_free e = cc

      no_successor : (i : ℕ) → awaits_successor (use_of v n i) ≡ false
      no_successor =
          by_word p c s n x k v h (λ i. awaits_successor (use_of v n i) ≡ false)
          (ap (λ (z : Value). awaits_successor (word_in z).used) (channel_is p c s n x k v h))
          (ap (λ (z : Value). awaits_successor (word_in z).used) (one_is p c s n x k v h))
          (ap (λ (z : Value). awaits_successor (word_in z).used) (two_is p c s n x k v h))
          (ap (λ (z : Value). awaits_successor (word_in z).used) (three_is p c s n x k v h))
          (λ i e a b d f. ap (λ (z : Value). awaits_successor (word_in z).used) e
          ∙ ap awaits_successor (used_before p c s n x k v h i) ∙ (shown_node p c s n x k).marks.no_successor i)

      own_saved : AreSavedWords v n w
      own_saved =
          saved_words v n w (ap (λ (z : Value). (word_in z).used) (one_is p c s n x k v h))
          (ap (λ (z : Value). (word_in z).used) (two_is p c s n x k v h))
          (ap (λ (z : Value). is_set_aside (word_in z).used) (three_is p c s n x k v h))
          (ap (λ (z : Value). (word_in z).cells) (one_is p c s n x k v h))
          (ap (λ (z : Value). (word_in z).cells) (two_is p c s n x k v h))

      saved_each : (a : ℕ) → Contains (descheduled made.control) a → AreSavedWords v n a
      saved_each a g =
          by (Contains-push_cases (descheduled m) w a (subst (λ (z : List ℕ). Contains z a) desch_now g))
        where
          by : Contains (descheduled m) a ⊎ (w ≡ a) → AreSavedWords v n a
          by (inl f) =
              saved_words_stay s v n a (λ i e. unfree_stays i (aside_not_free e)
              (λ q. true≢false (sym e ∙ ap (λ b. is_set_aside (use_of s n b)) q ∙ not_aside p c s n x k v h)))
              (saved_of p c s n x k v h a f)
          by (inr e) = subst (AreSavedWords v n) e own_saved

  module _ (finds : word_at k.node.machine.store k.node.machine.control.registers.b ≡ not_process) where
    pub stepped : step k.node.machine ≡ Ok (made, ran.Instruction)
    stepped =
        h.steps made.control made.store
        (h.asked.runs
        ∙ waits_run (left_by o registers) asks (control_at p c s n x k o h.size) store h.laid claims take finds desch
        write touch)

  -- a store where the process has its half: words of other channels, and saved words, are as before
  pub record IsLaid (last : Store) : Type 0 where
    pub tells : Tells v n k.plan.memory last
    pub words : (a : ℕ) → LiesWord k.plan.memory a → is_firm (use_of s n (word_number a)) ≡ true → word_number a ≢ j
        → word_at last a ≡ word_at store a
    pub channel_word : word_at last channel ≡ own
    pub iptr : word_at last (word_below w 1) ≡ registers.iptr

  pub made_laid : IsLaid made.store
  made_laid =
      record {
        tells = tells_now;
        words = λ a l e f. word_stays_after a l (firm_not_free e) f;
        channel_word = word_there;
        iptr = iptr_there;
      }
