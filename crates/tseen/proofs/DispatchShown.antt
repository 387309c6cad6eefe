-- A dispatch is seen as that the process goes on from its rest.
use Rattle.std.proofs.Common.{ℤ}
use Rattle.tseen.proofs.ChoicePlain.{alternative_context}
use Rattle.tseen.proofs.TakenBack.{fewer_at}
use Rattle.tprocesses.specs.Values.{amount_in}
use Rattle.tseen.proofs.Resumed.{numbers_apart}
use Rattle.tproc.specs.declared.channels.Side.{Side}
use Rattle.tprocesses.specs.Touching.{word_number}
use Rattle.tword.specs.Touches.{word_place_break}
use Rattle.tproc.specs.Queues.{state_word}
use Rattle.tproc.specs.Channels.{ready}
use Rattle.tprocesses.specs.Values.{Choice, half_in, ports_in, link_in}
use Rattle.tseen.proofs.ChoiceChanged.{one_workspace, due_same}
use Rattle.tseen.proofs.Choices.{state_lasts, is_state, state_use_is, alternative_with}
use Rattle.tseen.specs.Choices.{Alternative, HasChoice, IsEnabled, IsReady, IsUnready}
use Rattle.tseen.specs.Choices.{enabler, enabler_at, enabler_on, enables, is_sent, is_due, unready_word, HasEnabled}
use Rattle.tseen.specs.Choices.{IsEnabledLink, link_enabler, input_at, input_channel, descriptor_at}
use Rattle.tprocesses.specs.Choosing.{is_taken as is_taken_half, has_port}
use Rattle.tprocesses.specs.Values.{IsWord as a_word}
use Rattle.tprocesses.specs.Changes.{used_word}
use Rattle.tseen.proofs.Choices.{is_lasting}
use Rattle.tseen.specs.Words.{is_set_aside}
use Rattle.tprocesses.specs.Values.{Awaiting, Choosing, Spoilt, Last}
use Rattle.tseen.proofs.ChoiceChanged.{IsChanged, choices_changed}
use Rattle.tprocesses.specs.Standing.{goes_on}
use Rattle.tprocesses.specs.Parts.{◌>>=◌}
use Rattle.tseen.proofs.After.{After}
use Rattle.tplan.specs.declared.plan.NodePlan.{NodePlan}
use Rattle.std.specs.Prelude.{slice_get}
use Rattle.tprocesses.specs.Choosing.{goes_on_chosen}
use Rattle.tprocesses.specs.Machine.{stepped as stepped_by, at_site, step_of, Process}
use Rattle.tprocesses.specs.Values.{stand_in, Chosen}
use Rattle.tprocesses.specs.Places.{Ports, Unfinished}
use Rattle.tseen.specs.Choices.{alternative_of, alternative_at, is_quiet}
use Rattle.tseen.proofs.Choices.{lasting_not_saved, none_is, alternative_none}
use Rattle.std.proofs.Common.{◌≡◌, ◌≢◌, ℕ, zero, suc, ◌+◌, ◌<◌, ◌≤◌, ◌%◌, refl, sym, ap, subst, ◌∙◌, List, [], ◌∷◌}
use Rattle.std.proofs.Common.{Bool, true, false, true≢false, length, length-append, Contains, Option, Some, None, arith}
use Rattle.std.proofs.Common.{◌⊎◌, inl, inr, pos, cond, map, ◌++◌}
use Rattle.std.specs.Prelude.{◌==◌, IfSome, is_some, find, option_map, option_to_list, slice_index_or}
use Rattle.std.specs.List.{sum_by}
use Rattle.std.proofs.lemmas.Option.{IfSome_then}
use Rattle.std.proofs.lemmas.Bool.{eq-eqb, eqb-true}
use Rattle.std.proofs.lemmas.List.Elements.{All-contains}
use Rattle.std.proofs.lemmas.List.Sums.{sum_by-append, sum_by-cons}
use Rattle.tword.specs.Words.{word_below}
use Rattle.tword.specs.Stores.{Store, word_at}
use Rattle.tproc.specs.declared.offer.Offer.{Offer}
use Rattle.tproc.specs.declared.channels.Side.TheVariants.{Input, Output}
use Rattle.tproc.specs.declared.ran.Ran.TheVariants as ran
use Rattle.tproc.specs.declared.waiter.LinkEnd.{LinkEnd}
use Rattle.tproc.specs.declared.waiter.Waiter.{Waiter}
use Rattle.tproc.specs.declared.waiter.Reason.{Reason}
use Rattle.tproc.specs.declared.waiter.Reason.TheVariants.{LinkOutput}
use Rattle.tproc.specs.Placement.{WaitsFor, IsBuffer}
use Rattle.tproc.specs.declared.waiter.Suspended.{Suspended}
use Rattle.tcpu.specs.declared.registers.Registers.{Registers}
use Rattle.tproc.specs.Machine.{Control, Machine, descheduled, workspace_of, priority_of}
use Rattle.tproc.specs.ProcessStatus.{live, is_queued, reason_of}
use Rattle.tproc.specs.LinkChannels.{link_end, quiet_end}
use Rattle.tplan.specs.declared.plan.Plan.{Plan}
use Rattle.tplan.specs.Wires.{end_at}
use Rattle.tnet.specs.Rendezvous.{Node, Configuration, was_copied}
use Rattle.tprocesses.specs.Places.{Place, Name, WordAt, Sending, Standing, Half, LinkHalf, Error, HaltOnError, Life}
use Rattle.tprocesses.specs.Places.{Population, HasRun, same_name}
use Rattle.tprocesses.specs.Values.{Value, Use, Free, Saved, Receiving, Engaged, Context, Lent, Stand, Rests, Runs}
use Rattle.tprocesses.specs.Values.{IsStand, IsFlag, IsAmount, IsLink, word_in}
use Rattle.tprocesses.specs.Touching.{Site}
use Rattle.tprocesses.specs.Machine.{site_of, awaits_successor}
use Rattle.tseen.specs.Known.{HasSaved}
use Rattle.tseen.specs.Seats.{Seat, Current, Interrupted, Queued, Waiting, is_taken}
use Rattle.tseen.specs.Outputs.{Pending, is_sending, sendings, half_with, has_passed}
use Rattle.tseen.specs.Words.{AreMarked, AreSavedWords}
use Rattle.tseen.specs.Halves.{ShowsLink, IsInput, request_of}
use Rattle.tseen.specs.Processes.{Fits, IsSeated, IsGone, HasFlags, HasPassed, ShowsProcesses}
use Rattle.tseen.specs.Shown.{ShowsNode}
use Rattle.tseen.specs.Steps.{IsNext, LeadsTo, DispatchesAreSeen}
use Rattle.tprocesses.specs.Standing.{unsave, takes_back}
use Rattle.tseen.proofs.After.{State, after_bind, after_step}
use Rattle.tseen.proofs.Jumps.{resting_then}
use Rattle.tseen.proofs.TakenBack.{takes_back_then}
use Rattle.tseen.proofs.Cells.{use_of, shows_from}
use Rattle.tseen.proofs.Finished.{stands_then, is_stand_of, one_name, place_itself}
use Rattle.tseen.proofs.Nets.{chosen, leads_by}
use Rattle.tseen.proofs.Running.{whole_memory, told}
use Rattle.tseen.proofs.Counted.{count_at, beside, live_beside, live_idle, waits_descheduled, queued_descheduled}
use Rattle.tseen.proofs.Saving.{below, other_number, no_word, IsUnsaved, unsave_then}
use Rattle.tseen.proofs.Staying.{saved_words_alike, marks_from, channels_stay, input_renamed, used_one, used_two}
use Rattle.tseen.proofs.Others.{queued_seated, waiting_seated, interrupted_seated}
use Rattle.tseen.proofs.TakenBack.{is_sending_of, is_flag_of, sent_back, settled, without_output}
use Rattle.tseen.proofs.TakenBack.{taken_back_sendings}
use Rattle.tseen.proofs.Written.{is_word_of}
use Rattle.tseen.proofs.Freed.{IsFreed, WordFreed, is_plain, all_freed}
use Rattle.tseen.proofs.Freed.{unsaved_stays, used_then, tells_then, unsave_chosen_then}
use Rattle.tseen.proofs.Dispatching.{shown_next, pop, still_there, other_workspace, other_below, own_words, IsResting}
use Rattle.tseen.proofs.Dispatching.{rests_there, now, stepped, hidden_now, AreResumed, stays, not_lent, word_then}
use Rattle.tseen.proofs.Dispatching.{others_stay, same_workspace, same_priority, aligned, w, w_space, w_small}
use Rattle.tseen.proofs.InputChannels.{remembered_stays}
use Rattle.tseen.proofs.NoticedOffers.{outputs_stay}

-- names where a process runs now
abbrev pub running_named : Name → (Seat → Name) → Seat → Name
running_named x named Current = x
running_named x named q = named q

-- whether the process of the last output of a link has still to go on, where one was taken back
settled_is : (site : Site) (lent : Option Lent) (sent : ℕ → Option Pending) (l : ℕ)
    → settled site lent l (IsFlag (has_passed (sent l))) ≡ IsFlag (has_passed (without_output lent sent l))
settled_is site None sent l = refl
settled_is site (Some t) sent l = by (t.link == l)
  where
    by : (b : Bool) → chosen b (IsFlag false) (IsFlag (has_passed (sent l)))
        ≡ IsFlag (has_passed (chosen b None (sent l)))
    by true = refl
    by false = refl

-- an output that is there still was there, and is none that was taken back
still_sent : (lent : Option Lent) (sent : ℕ → Option Pending) (l : ℕ) (q : Pending)
    → without_output lent sent l ≡ Some q
    → (sent l ≡ Some q) × ((t : Lent) → lent ≡ Some t → t.link ≢ l)
still_sent None sent l q h = (h, λ t e. cc)
still_sent (Some t) sent l q h = by (t.link == l) refl h
  where
    by : (b : Bool) → (t.link == l) ≡ b → chosen b None (sent l) ≡ Some q
        → (sent l ≡ Some q) × ((t' : Lent) → Some t ≡ Some t' → t'.link ≢ l)
    by true e h = cc
    by false e h = (h, λ t' f g. true≢false (sym (eq-eqb t.link l (ap (λ (z : Lent). z.link) (same f) ∙ g)) ∙ e))
      where
        same : {a b : Lent} → Some a ≡ Some b → a ≡ b
        same e = cc

-- who waits for something is found
pub found_waiting : (ws : List Waiter) (p : ℕ) (r : Reason) → Contains ws (record { process = p; reason = r })
    → is_some (option_map (λ z. z.reason) (find (λ z. z.process == p) ws)) ≡ true
found_waiting [] p r h = absurd (omega (arith, h.1))
found_waiting (x ∷ xs) p r (zero, b, e) =
    let f : x.process ≡ p = ap (λ (z : Waiter). z.process) e in rw (eq-eqb x.process p f) refl
found_waiting (x ∷ xs) p r (suc i, b, e) = by (x.process == p) (found_waiting xs p r (i, omega (arith, b), e))
  where
    by : (t : Bool) → is_some (option_map (λ z. z.reason) (find (λ z. z.process == p) xs)) ≡ true
        → is_some (option_map (λ z. z.reason) (cond t (Some x) (find (λ z. z.process == p) xs))) ≡ true
    by true h = refl
    by false h = h

module _ (p : Plan) (c : Configuration) (s : State) (n : ℕ) (x : Name) (k : IsNext p c s n x) (v v2 s' : State)
    (a : AreResumed p c s n x k (rests_there p c s n x k).context v v2 s') where
  abbrev m : Control
  m = k.node.machine.control

  abbrev store : Store
  store = k.node.machine.store

  abbrev site : Site
  site = site_of n k.plan

  abbrev rested : IsResting p c s n x k
  rested = rests_there p c s n x k

  abbrev d : Context
  d = rested.context

  abbrev rest : Control
  rest = (pop p c s n x k).rest

  abbrev own_w : ℕ
  own_w = w p c s n x k

  abbrev level : ℕ
  level = (pop p c s n x k).level

  abbrev after : Machine
  after = now p c s n x k

  abbrev node' : Node
  node' = record k.node { machine = after }

  abbrev named : Seat → Name
  named = k.shows.named n

  abbrev named' : Seat → Name
  named' = running_named x named

  abbrev sent : ℕ → Option Pending
  sent = k.shows.sent n

  abbrev sent' : ℕ → Option Pending
  sent' = without_output d.lent sent

  abbrev shown : ShowsNode s n k.plan named sent k.node
  shown = shown_next p c s n x k

  stay : (q : Place) → is_word_of n q ≡ false → is_sending_of n q ≡ false → ((j : ℕ) → is_flag_of n j q ≡ false)
      → is_stand_of x q ≡ false → s' q ≡ s q
  stay q e f g h = stays p c s n x k d v v2 s' a q e f (not_lent p c s n x k d v v2 s' a d.lent q g) h

  abbrev whole : k.plan.memory % 4 ≡ 0
  whole = whole_memory s n k.plan named sent k.node shown k.steady

  -- a word that was not saved
  unsaved : (j : ℕ) → (is_set_aside (use_of s n j) ≡ true → ⊥) → s' (WordAt n j) ≡ s (WordAt n j)
  unsaved j h =
      word_then p c s n x k d v v2 s' a j
      ∙ unsaved_stays n (w p c s n x k) s v a.freed j h

  -- the use of a word
  used_after : (j : ℕ) → (is_plain (use_of s' n j) ≡ true) ⊎ (use_of s' n j ≡ use_of s n j)
  used_after j =
      subst (λ z. (is_plain z ≡ true) ⊎ (z ≡ use_of s n j))
      (sym (ap (λ (z : Value). (word_in z).used) (word_then p c s n x k d v v2 s' a j)))
      (used_then n (w p c s n x k) s v a.freed j)

  same_link : (l : ℕ) → link_end after.control l ≡ link_end m l
  same_link l = ap (λ (ls : List LinkEnd). slice_index_or ls l quiet_end) (pop p c s n x k).links

  same_reason : (process : ℕ) → reason_of after.control process ≡ reason_of m process
  same_reason process =
      ap (λ (ws : List Waiter). option_map (λ z. z.reason) (find (λ z. z.process == process) ws))
      (pop p c s n x k).waiting

  -- its own output
  lent_sent : (t : Lent) → d.lent ≡ Some t → (t.link < 4)
      × (sent t.link ≡ Some (record { request = record { process = x; buffer = t.buffer }; copied = true }))
  lent_sent t e = by rested.how
    where
      differ : None ≡ Some t → ⊥
      differ f = cc

      by : (rested.stand ≡ Rests d) ⊎ ((rested.stand ≡ Chosen d) × (d.lent ≡ None))
          → (t.link < 4)
          × (sent t.link ≡ Some (record { request = record { process = x; buffer = t.buffer }; copied = true }))
      by (inl f) = shown.processes.lent x d t rested.home (rested.stood ∙ ap IsStand f) e
      by (inr f) = absurd (differ (sym f.1 ∙ e))

  sendings_now : (j : ℕ) → s' (Sending n j) ≡ IsAmount (pos (sendings sent' j))
  sendings_now j =
      a.runs.others (Sending n j) refl ∙ a.back.sending j
      ∙ ap (sent_back site d.lent j) (a.freed.rest (Sending n j) (no_word n (w p c s n x k) (Sending n j) refl)
      ∙ shown.marks.outputs j)
      ∙ by d.lent refl
    where
      by : (o : Option Lent) → d.lent ≡ o
          → sent_back site o j (IsAmount (pos (sendings sent j))) ≡ IsAmount (pos (sendings (without_output o sent) j))
      by None e = refl
      by (Some t) e =
          let f = lent_sent t e in
          taken_back_sendings t sent j site f.0 (ap (is_sending j) f.1)

  unsent_still : (j : ℕ) → amount_in (s (Sending n j)) ≡ pos 0 → amount_in (s' (Sending n j)) ≡ pos 0
  unsent_still j z = ap amount_in (sendings_now j) ∙ by d.lent refl
    where
      none : sendings sent j ≡ 0
      none = ap count (sym (ap amount_in (shown.marks.outputs j)) ∙ z)
        where
          count : ℤ → ℕ
          count (pos i) = i
          count _ = 0

      by : (o : Option Lent) → d.lent ≡ o → pos (sendings (without_output o sent) j) ≡ pos 0
      by None e = ap pos none
      by (Some t) e = ap pos (omega (arith, fewer_at t.link sent j (lent_sent t e).0, none))

  marks_after : AreMarked s' n sent' after.control
  marks_after =
      marks_from s s' n sent sent' m after.control saved (λ l. ap (λ (e : LinkEnd). e.input) (same_link l))
      (λ j e. ap (λ (z : Value). (word_in z).used) (unsaved j (λ f. true≢false (sym f ∙ ap is_set_aside e))) ∙ e)
      sendings_now
      (λ j. no_successor j (used_after j)) shown.marks
    where
      plain : (u : Use) → is_plain u ≡ true → awaits_successor u ≡ false
      plain Free e = refl
      plain Choosing e = refl
      plain Saved e = refl
      plain Receiving e = refl
      plain Engaged e = refl
      plain Awaiting e = refl
      plain (Last q) e = absurd (true≢false (sym e))
      plain Spoilt e = absurd (true≢false (sym e))

      no_successor : (j : ℕ) → (is_plain (use_of s' n j) ≡ true) ⊎ (use_of s' n j ≡ use_of s n j)
          → awaits_successor (use_of s' n j) ≡ false
      no_successor j (inl e) = plain (use_of s' n j) e
      no_successor j (inr e) = ap awaits_successor e ∙ shown.marks.no_successor j

      saved : (b : ℕ) → Contains (descheduled after.control) b → AreSavedWords s' n b
      saved b h =
          saved_words_alike s s' n b (word 1 (omega arith) (omega arith)) (word 2 (omega arith) (omega arith))
          (word 3 (omega arith) (omega arith))
          (All-contains (AreSavedWords s n) (descheduled m) b shown.marks.saved (still_there p c s n x k b h))
        where
          word : (i : ℕ) → 1 ≤ i → i ≤ 3 → s' (WordAt n (below b i)) ≡ s (WordAt n (below b i))
          word i e f =
              word_then p c s n x k d v v2 s' a (below b i)
              ∙ a.freed.rest (WordAt n (below b i)) (other_number n (w p c s n x k) (below b i)
              (other_below p c s n x k b i 1 h e f (omega arith) (omega arith))
              (other_below p c s n x k b i 2 h e f (omega arith) (omega arith))
              (other_below p c s n x k b i 3 h e f (omega arith) (omega arith)))

  -- no other process has its name
  by_saved : (b : ℕ) → HasSaved store b d → Contains (descheduled rest) (workspace_of b) → ⊥
  by_saved b f h =
      other_workspace p c s n x k (workspace_of b) h
      (sym (same_workspace p c s n x k) ∙ sym rested.saved.wptr ∙ f.wptr)

  same_stand : (stand : Stand) (y : Name) → y ≡ x → s (Standing y) ≡ IsStand stand → stand ≡ rested.stand
  same_stand stand y e f = stand_of (sym f ∙ ap (λ z. s (Standing z)) e ∙ rested.stood)
    where
      stand_of : {a b : Stand} → IsStand a ≡ IsStand b → a ≡ b
      stand_of e = cc

  abbrev HowItRests : Type 0
  HowItRests = (rested.stand ≡ Rests d) ⊎ ((rested.stand ≡ Chosen d) × (d.lent ≡ None))

  -- what it will go on with
  waiting_saved : (b : ℕ) → Fits k.node (Waiting b) rested.stand → HowItRests → HasSaved store b d
  waiting_saved b f (inl e) = (subst (Fits k.node (Waiting b)) e f).0
  waiting_saved b f (inr e) = absurd (subst (Fits k.node (Waiting b)) e.0 f)

  queued_saved : (b : ℕ) → Fits k.node (Queued b) rested.stand → HowItRests → HasSaved store b d
  queued_saved b f (inl e) = subst (Fits k.node (Queued b)) e f
  queued_saved b f (inr e) = (subst (Fits k.node (Queued b)) e.0 f).0

  not_waiting : (b : ℕ) → is_some (reason_of m b) ≡ true → named (Waiting b) ≡ x → ⊥
  not_waiting b h e =
      let old : IsSeated s n k.node (Waiting b) (named (Waiting b)) = shown.processes.seated (Waiting b) h in
      let f : Fits k.node (Waiting b) rested.stand =
      subst (Fits k.node (Waiting b)) (same_stand old.stand (named (Waiting b)) e old.stands) old.fits in
      by_saved b (waiting_saved b f rested.how) (waits_descheduled rest b
      (subst (λ (o : Option Reason). is_some o ≡ true) (sym (same_reason b)) h))

  not_queued : (b : ℕ) → is_queued rest b ≡ true → is_queued m b ≡ true → named (Queued b) ≡ x → ⊥
  not_queued b g h e =
      let old : IsSeated s n k.node (Queued b) (named (Queued b)) = shown.processes.seated (Queued b) h in
      let f : Fits k.node (Queued b) rested.stand =
      subst (Fits k.node (Queued b)) (same_stand old.stand (named (Queued b)) e old.stands) old.fits in
      by_saved b (queued_saved b f rested.how) (queued_descheduled rest b g)

  other_name : (y : Name) → (y ≡ x → ⊥) → same_name x y ≡ false
  other_name y h = by (same_name x y) refl
    where
      by : (b : Bool) → same_name x y ≡ b → same_name x y ≡ false
      by false e = e
      by true e = absurd (h (sym (one_name p x y e)))

  half_stays : (l : ℕ) (side : Side) → s' (LinkHalf (end_at n l) side) ≡ s (LinkHalf (end_at n l) side)
  half_stays l side = stay (LinkHalf (end_at n l) side) refl refl (λ j. refl) refl

  stand_stays : (y : Name) → same_name x y ≡ false → s' (Standing y) ≡ s (Standing y)
  stand_stays y h = stay (Standing y) refl refl (λ j. refl) h

  wptr_is : d.wptr ≡ own_w
  wptr_is = rested.saved.wptr ∙ same_workspace p c s n x k

  -- its alternative before and after
  abbrev Third : Type 0
  Third =
      ((rested.stand ≡ Rests d) × (use_of s n (below own_w 3) ≡ Saved))
      ⊎ ((rested.stand ≡ Chosen d) × (use_of s n (below own_w 3) ≡ Awaiting)
      × (v (WordAt n (below own_w 3)) ≡ a_word (used_word Choosing)))

  none_then : rested.stand ≡ Rests d → alternative_at s' n x ≡ None
  none_then e =
      ap (λ (z : Value). alternative_of (stand_in z)) a.runs.is
      ∙ alternative_none true false (record d { lent = None }) (none_is d.choice
      (sym (ap (λ (z : Value). is_quiet (stand_in z)) (rested.stood ∙ ap IsStand e))
      ∙ shown.choices.quiet x rested.home))

  none_before : rested.stand ≡ Rests d → alternative_at s n x ≡ None
  none_before e = ap (λ (z : Value). alternative_of (stand_in z)) (rested.stood ∙ ap IsStand e)

  differ : {b : Alternative} → None ≡ Some b → ⊥
  differ e = cc

  one_is : {b b' : Alternative} → Some b ≡ Some b' → b ≡ b'
  one_is e = cc

  -- where it was made to go on
  chosen_choice : rested.stand ≡ Chosen d → (choice : Choice) × (d.choice ≡ Some choice)
  chosen_choice e =
      by d.choice refl (sym (ap (λ (z : Value). is_quiet (stand_in z)) (rested.stood ∙ ap IsStand e))
      ∙ shown.choices.quiet x rested.home)
    where
      by : (o : Option Choice) → d.choice ≡ o → is_some o ≡ true → (choice : Choice) × (d.choice ≡ Some choice)
      by (Some choice) f g = (choice, f)
      by None f g = absurd (true≢false (sym g))

  abbrev own_one : (runs : Bool) → Choice → Alternative
  own_one runs choice =
      record { skips = choice.skips; wptr = d.wptr; priority = d.priority; runs = runs; waits = false }

  chosen_before : (e : rested.stand ≡ Chosen d)
      → alternative_at s n x ≡ Some (own_one false (chosen_choice e).0)
  chosen_before e =
      ap (λ (z : Value). alternative_of (stand_in z)) (rested.stood ∙ ap IsStand e)
      ∙ alternative_with false false d (chosen_choice e).0 (chosen_choice e).1

  chosen_now : (e : rested.stand ≡ Chosen d) → alternative_at s' n x ≡ Some (own_one true (chosen_choice e).0)
  chosen_now e =
      ap (λ (z : Value). alternative_of (stand_in z)) a.runs.is
      ∙ alternative_with true false (record d { lent = None }) (chosen_choice e).0 (chosen_choice e).1

  -- the descriptor of a process that has an alternative
  abbrev descriptor : Option Alternative → Option ℕ
  descriptor o = option_map (λ b. b.wptr + b.priority) o

  own_descriptor : descriptor_at s' n x ≡ descriptor_at s n x
  own_descriptor = by a.third
    where
      by : Third → descriptor_at s' n x ≡ descriptor_at s n x
      by (inl g) = ap descriptor (none_then g.0) ∙ sym (ap descriptor (none_before g.0))
      by (inr g) = ap descriptor (chosen_now g.0) ∙ sym (ap descriptor (chosen_before g.0))

  descriptor_stays : (y : Name) → descriptor_at s' n y ≡ descriptor_at s n y
  descriptor_stays y = by (same_name x y) refl
    where
      by : (b : Bool) → same_name x y ≡ b → descriptor_at s' n y ≡ descriptor_at s n y
      by true e = subst (λ z. descriptor_at s' n z ≡ descriptor_at s n z) (one_name p x y e) own_descriptor
      by false e = ap (λ (v : Value). descriptor (alternative_of (stand_in v))) (stand_stays y e)

  links_after : (l : ℕ) → l < 4 → ShowsLink s' n named' sent' node' l
  links_after l h =
      record {
        input = subst (λ (e : LinkEnd). IsInput named' e.input (s' (LinkHalf (end_at n l) Input))) (sym (same_link l))
            (input_renamed named named' (link_end m l).input _ _ (λ e f. refl) (half_stays l Input) old.input);
        output = half_stays l Output ∙ old.output ∙ passed_empty d.lent refl;
        unfinished = a.runs.others (Unfinished (end_at n l)) refl ∙ a.back.unfinished l
            ∙ ap (settled site d.lent l) (a.freed.rest (Unfinished (end_at n l))
            (no_word n (w p c s n x k) (Unfinished (end_at n l)) refl) ∙ old.unfinished)
            ∙ settled_is site d.lent sent l;
        offered = λ o e. offered o (sym (ap (λ (e : LinkEnd). e.output) (same_link l)) ∙ e);
        fresh = λ e. old.fresh (sym (ap (λ (e : LinkEnd). e.output) (same_link l)) ∙ e);
        unnoticed = λ o e. ap (λ (e : LinkEnd). e.noticed) (same_link l)
            ∙ old.unnoticed o (sym (ap (λ (e : LinkEnd). e.input) (same_link l)) ∙ e);
        remembered = λ e. ap (λ (e : LinkEnd). e.remembered) (same_link l)
            ∙ old.remembered (sym (ap (λ (e : LinkEnd). e.noticed) (same_link l)) ∙ e)
            ∙ sym (remembered_stays s s' n l (ap link_in (half_stays l Input)) (λ y f. descriptor_stays y));
        forgotten = λ e. ap (λ (e : LinkEnd). e.remembered) (same_link l)
            ∙ old.forgotten (sym (ap (λ (e : LinkEnd). e.noticed) (same_link l)) ∙ e);
        fired = λ y e. ap (λ (e : LinkEnd). e.noticed) (same_link l) ∙ old.fired y (sym (half_stays l Input) ∙ e);
        pending = λ q e f. (let o = old.pending q (still_sent d.lent sent l q e).0 f in
            (o.0, ap (λ (e : LinkEnd). e.output) (same_link l) ∙ o.1));
      }
    where
      old : ShowsLink s n named sent k.node l
      old = shown.links l h

      -- an output that was taken back had gone over
      passed_empty : (lent : Option Lent) → d.lent ≡ lent
          → IsLink (half_with (sent l)) ≡ IsLink (half_with (without_output lent sent l))
      passed_empty None f = refl
      passed_empty (Some t) f = by (t.link == l) refl
        where
          by : (b : Bool) → (t.link == l) ≡ b
              → IsLink (half_with (sent l)) ≡ IsLink (half_with (chosen b None (sent l)))
          by false g = refl
          by true g =
              ap (λ o. IsLink (half_with o)) (ap sent (sym (eqb-true _ _ g)) ∙ (lent_sent t f).1)

      waits_there : (o : Offer) → (link_end m l).output ≡ Some o → is_some (reason_of m o.wdesc) ≡ true
      waits_there o e =
          found_waiting m.waiting o.wdesc (LinkOutput l)
          (subst (λ (z : Option Offer). IfSome z (λ o. WaitsFor m o.wdesc (LinkOutput l) × IsBuffer (length store) o)) e
          (k.steady.placed.claimed.outputs l)).0

      offered : (o : Offer) → (link_end m l).output ≡ Some o
          → sent' l ≡ Some (record { request = request_of named' o; copied = was_copied node' l })
      offered o e = by d.lent refl
        where
          by : (lent : Option Lent) → d.lent ≡ lent
              → without_output lent sent l
              ≡ Some (record { request = request_of named o; copied = was_copied k.node l })
          by None f = old.offered o e
          by (Some t) f = at_link (t.link == l) refl
            where
              at_link : (b : Bool) → (t.link == l) ≡ b → chosen b None (sent l)
                  ≡ Some (record { request = request_of named o; copied = was_copied k.node l })
              at_link false g = old.offered o e
              at_link true g =
                  let same : Some (record { request = record { process = x; buffer = t.buffer }; copied = true })
                  ≡ Some (record { request = request_of named o; copied = was_copied k.node l }) =
                  sym (lent_sent t f).1 ∙ ap sent (eqb-true _ _ g) ∙ old.offered o e in
                  absurd (not_waiting o.wdesc (waits_there o e) (sym (process_of same)))
                where
                  process_of : {q r : Pending} → Some q ≡ Some r → q.request.process ≡ r.request.process
                  process_of {q} {r} e = ap (λ (z : Pending). z.request.process) (same e)
                    where
                      same : {q r : Pending} → Some q ≡ Some r → q ≡ r
                      same e = cc

  -- who has a seat
  run_stays : (q : ℕ) → s' (HasRun n q) ≡ s (HasRun n q)
  run_stays q = stay (HasRun n q) refl refl (λ j. refl) refl

  current_seated : IsSeated s' n node' Current x
  current_seated =
      record {
        home = rested.home;
        stand = Runs (record d { lent = None });
        stands = a.runs.is;
        fits = record {
          priority = rested.saved.priority ∙ same_priority p c s n x k;
          wptr = rested.saved.wptr ∙ same_workspace p c s n x k;
          iptr = rested.saved.iptr
              ∙ ap (λ b. word_at store (word_below b 1)) (same_workspace p c s n x k);
          a = rested.saved.a;
          b = rested.saved.b;
          c = rested.saved.c;
          nothing_lent = refl;
        };
        has_run = run_stays d.priority
            ∙ ap (λ q. s (HasRun n q)) (rested.saved.priority ∙ same_priority p c s n x k) ∙ rested.has_run;
      }

  -- whoever was interrupted is so still
  same_interrupted : after.control.interrupted ≡ m.interrupted
  same_interrupted = (pop p c s n x k).interrupted

  not_interrupted : is_some m.interrupted ≡ true → named Interrupted ≡ x → ⊥
  not_interrupted h e =
      let old : IsSeated s n k.node Interrupted (named Interrupted) = shown.processes.seated Interrupted h in
      by (subst (Fits k.node Interrupted) (same_stand old.stand (named Interrupted) e old.stands) old.fits) rested.how
    where
      by : Fits k.node Interrupted rested.stand → HowItRests → ⊥
      by f (inl e) = subst (Fits k.node Interrupted) e f
      by f (inr e) = subst (Fits k.node Interrupted) e.0 f

  was_interrupted : is_some after.control.interrupted ≡ true → is_some m.interrupted ≡ true
  was_interrupted h = subst (λ (o : Option Suspended). is_some o ≡ true) same_interrupted h

  was_queued : (b : ℕ) → is_queued rest b ≡ true → is_queued m b ≡ true
  was_queued b h = (pop p c s n x k).were (workspace_of b) (priority_of b) (omega arith) h

  was_waiting : (b : ℕ) → is_some (reason_of after.control b) ≡ true → is_some (reason_of m b) ≡ true
  was_waiting b h = subst (λ (o : Option Reason). is_some o ≡ true) (same_reason b) h

  passed_still : (b : ℕ) → HasPassed k.node b → HasPassed node' b
  passed_still b h = (h.0, same_reason b ∙ h.1, h.2)

  seated : (q : Seat) → is_taken after.control q ≡ true → IsSeated s' n node' q (named' q)
  seated Current h = current_seated
  seated Interrupted h =
      interrupted_seated n x s s' stand_stays run_stays k.node node' (named Interrupted)
      (other_name (named Interrupted) (not_interrupted (was_interrupted h))) same_interrupted
      (shown.processes.seated Interrupted (was_interrupted h))
  seated (Queued b) h =
      queued_seated n x s s' stand_stays run_stays k.node node' b (named (Queued b))
      (other_name (named (Queued b)) (not_queued b h (was_queued b h))) refl
      (shown.processes.seated (Queued b) (was_queued b h))
  seated (Waiting b) h =
      waiting_seated n x s s' stand_stays run_stays k.node node' b (named (Waiting b))
      (other_name (named (Waiting b)) (not_waiting b (was_waiting b h))) (passed_still b) (λ f. same_reason b ∙ f) refl
      (shown.processes.seated (Waiting b) (was_waiting b h))

  abbrev HasPlace : Name → Type 0
  HasPlace y = IsGone s' n y ⊎ ((q : Seat) × (is_taken after.control q ≡ true) × (named' q ≡ y))

  placed : (y : Name) → y.node ≡ n → HasPlace y
  placed y h = by (same_name x y) refl
    where
      queued : (b : ℕ) → named (Queued b) ≡ y → same_name x y ≡ false
          → (is_queued rest b ≡ true) ⊎ ((workspace_of b ≡ w p c s n x k) × (priority_of b ≡ level)) → HasPlace y
      queued b e other (inl g) = inr (Queued b, g, e)
      queued b e other (inr g) =
          let same : b ≡ k.process = omega (arith, g.0, g.1, (pop p c s n x k).process_is) in
          let name : x ≡ y = sym k.name ∙ ap (λ z. named (Queued z)) (sym same) ∙ e in
          absurd (true≢false (sym (place_itself p (Standing x)) ∙ ap (same_name x) name ∙ other))

      of : same_name x y ≡ false → IsGone s n y ⊎ ((q : Seat) × (is_taken m q ≡ true) × (named q ≡ y)) → HasPlace y
      of other (inl (inl e)) = inl (inl (stand_stays y other ∙ e))
      of other (inl (inr e)) = inl (inr (stand_stays y other ∙ e))
      of other (inr (Current, taken, e)) =
          let f : false ≡ true = subst (λ (o : Option ℕ). is_some o ≡ true) k.idle taken in
          absurd (true≢false (sym f))
      of other (inr (Interrupted, taken, e)) =
          inr (Interrupted, subst (λ (o : Option Suspended). is_some o ≡ true) (sym same_interrupted) taken, e)
      of other (inr (Queued b, taken, e)) =
          queued b e other ((pop p c s n x k).still (workspace_of b) (priority_of b) (omega arith) taken)
      of other (inr (Waiting b, taken, e)) =
          inr (Waiting b, subst (λ (o : Option Reason). is_some o ≡ true) (sym (same_reason b)) taken, e)

      by : (b : Bool) → same_name x y ≡ b → HasPlace y
      by true e = inr (Current, refl, one_name p x y e)
      by false e = of e (shown.processes.there y h)

  same_beside : beside after.control ≡ beside m
  same_beside =
      ap (λ (o : Option Suspended). map workspace_of (option_to_list (option_map (λ t. t.registers.wptr + 1) o)))
      same_interrupted

  own_workspace : workspace_of (w p c s n x k + level) ≡ w p c s n x k
  own_workspace = omega (arith, aligned p c s n x k, (pop p c s n x k).small)

  lives : (b : ℕ) → s' (Life n b) ≡ IsAmount (pos (count_at b (live after.control)))
  lives b =
      stay (Life n b) refl refl (λ j. refl) refl ∙ shown.processes.lives b
      ∙ ap (λ z. IsAmount (pos z))
      (ap (count_at b) (live_idle m k.idle ∙ ap (λ (ws : List ℕ). ws ++ others) (pop p c s n x k).first)
      ∙ sum_by-append f (w p c s n x k ∷ descheduled rest) others
      ∙ ap (λ z. z + sum_by f others) (sum_by-cons f (w p c s n x k) (descheduled rest))
      ∙ sym (ap (count_at b) (live_beside after.control level refl)
      ∙ sum_by-append f (descheduled rest) (workspace_of (w p c s n x k + level) ∷ beside after.control)
      ∙ ap (λ z. sum_by f (descheduled rest) + z) (sum_by-cons f (workspace_of (w p c s n x k + level))
      (beside after.control)
      ∙ ap (λ z. f z + sum_by f (beside after.control)) own_workspace
      ∙ ap (λ z. f (w p c s n x k) + sum_by f z) same_beside) ∙ omega arith))
    where
      f : ℕ → ℕ
      f z = cond (z == b) 1 0

      others : List ℕ
      others = beside m

  many : length (live after.control) ≡ length (live m)
  many =
      ap length (live_beside after.control level refl)
      ∙ length-append (descheduled rest) (workspace_of (w p c s n x k + level) ∷ beside after.control)
      ∙ ap (λ (ws : List ℕ). length (descheduled rest) + suc (length ws)) same_beside
      ∙ sym (ap length (live_idle m k.idle ∙ ap (λ (ws : List ℕ). ws ++ beside m) (pop p c s n x k).first)
      ∙ length-append (w p c s n x k ∷ descheduled rest) (beside m) ∙ omega arith)

  processes_after : ShowsProcesses s' n named' sent' node'
  processes_after =
      record {
        seated = seated;
        there = placed;
        lent = λ y b t h e f. lent y b t h e f (same_name x y) refl;
        passed = λ l q e h. passed l q (still_sent d.lent sent l q e) h;
        lives = lives;
        population = (
          shown.processes.population.0,
          stay (Population n) refl refl (λ j. refl) refl ∙ shown.processes.population.1,
          subst (λ z. z ≤ shown.processes.population.0) (sym many) shown.processes.population.2,
        );
        interrupting = subst (λ (o : Option Suspended). IfSome o (λ t. s' (HasRun n 0) ≡ IsFlag true))
            (sym same_interrupted)
            (IfSome_then m.interrupted shown.processes.interrupting (λ t e. run_stays 0 ∙ e));
        flags = λ h. flags_after;
        kept_flags = λ h. subst (λ (o : Option Suspended). IfSome o (λ t. HasFlags s' n t.registers))
            (sym same_interrupted)
            (IfSome_then m.interrupted (shown.processes.kept_flags k.kept) (λ t e. flags_stay t.registers e));
      }
    where
      flags_before : HasFlags s n m.registers
      flags_before = shown.processes.flags k.kept

      flags_stay : (r : Registers) → HasFlags s n r → HasFlags s' n r
      flags_stay r f =
          record {
            error = stay (Error n) refl refl (λ j. refl) refl ∙ f.error;
            halting = stay (HaltOnError n) refl refl (λ j. refl) refl ∙ f.halting;
          }

      flags_after : HasFlags s' n after.control.registers
      flags_after =
          record {
            error = stay (Error n) refl refl (λ j. refl) refl ∙ flags_before.error
                ∙ ap (λ (r : Registers). IsFlag r.error) (sym (pop p c s n x k).registers);
            halting = stay (HaltOnError n) refl refl (λ j. refl) refl ∙ flags_before.halting
                ∙ ap (λ (r : Registers). IsFlag r.halt_on_error) (sym (pop p c s n x k).registers);
          }

      not_rests : (b : Context) → IsStand (Runs (record d { lent = None })) ≡ IsStand (Rests b) → ⊥
      not_rests b e = cc

      process_of : {q r : Pending} → Some q ≡ Some r → q.request.process ≡ r.request.process
      process_of {q} {r} e = ap (λ (z : Pending). z.request.process) (same e)
        where
          same : {q r : Pending} → Some q ≡ Some r → q ≡ r
          same e = cc

      still_lent : (y : Name) (t : Lent) → same_name x y ≡ false
          → sent t.link ≡ Some (record { request = record { process = y; buffer = t.buffer }; copied = true })
          → (lent : Option Lent) → d.lent ≡ lent → without_output lent sent t.link
          ≡ Some (record { request = record { process = y; buffer = t.buffer }; copied = true })
      still_lent y t other h None e = h
      still_lent y t other h (Some t0) e = by (t0.link == t.link) refl
        where
          by : (b : Bool) → (t0.link == t.link) ≡ b → chosen b None (sent t.link)
              ≡ Some (record { request = record { process = y; buffer = t.buffer }; copied = true })
          by false f = h
          by true f =
              let name : x ≡ y = process_of (sym (lent_sent t0 e).1 ∙ ap sent (eqb-true _ _ f) ∙ h) in
              absurd (true≢false (sym (place_itself p (Standing x)) ∙ ap (same_name x) name ∙ other))

      lent_of : (b : Context) → IsStand (Rests b) ≡ IsStand rested.stand → HowItRests → d.lent ≡ b.lent
      lent_of b e (inr f) = absurd (differ (e ∙ ap IsStand f.0))
        where
          differ : IsStand (Rests b) ≡ IsStand (Chosen d) → ⊥
          differ g = cc
      lent_of b e (inl f) = sym (ap lent_in (e ∙ ap IsStand f))
        where
          lent_in : Value → Option Lent
          lent_in (IsStand (Rests o)) = o.lent
          lent_in _ = None

      lent : (y : Name) (b : Context) (t : Lent) → y.node ≡ n → s' (Standing y) ≡ IsStand (Rests b)
          → b.lent ≡ Some t → (o : Bool) → same_name x y ≡ o → (t.link < 4)
          × (sent' t.link ≡ Some (record { request = record { process = y; buffer = t.buffer }; copied = true }))
      lent y b t h e f true same =
          absurd (not_rests b (sym a.runs.is ∙ ap (λ z. s' (Standing z)) (one_name p x y same) ∙ e))
      lent y b t h e f false other =
          let old = shown.processes.lent y b t h (sym (stand_stays y other) ∙ e) f in
          (old.0, still_lent y t other old.1 d.lent refl)

      passed : (l : ℕ) (q : Pending) → (sent l ≡ Some q) × ((t : Lent) → d.lent ≡ Some t → t.link ≢ l)
          → q.copied ≡ true
          → (q.request.process.node ≡ n) × (b : Context) × (s' (Standing q.request.process) ≡ IsStand (Rests b))
          × (b.lent ≡ Some (record { link = l; buffer = q.request.buffer }))
      passed l q e h =
          let old = shown.processes.passed l q e.0 h in (
            old.0,
            old.1,
            stand_stays q.request.process (other_name q.request.process (λ f.
                e.1 (record { link = l; buffer = q.request.buffer })
                (lent_of old.1 (sym old.2 ∙ ap (λ z. s (Standing z)) f ∙ rested.stood) rested.how ∙ old.3) refl))
                ∙ old.2,
            old.3,
          )

  engaged_back : (j : ℕ) → use_of s' n j ≡ Engaged
      → (is_plain (use_of s' n j) ≡ true) ⊎ (use_of s' n j ≡ use_of s n j) → use_of s n j ≡ Engaged
  engaged_back j e (inl f) = absurd (true≢false (sym f ∙ ap is_plain e))
  engaged_back j e (inr f) = sym f ∙ e

  -- so the node is shown
  node_after : ShowsNode s' n k.plan named' sent' node'
  node_after =
      record {
        role = shown.role;
        works = shown.works;
        runs_on = (pop p c s n x k).halted ∙ shown.runs_on;
        size = shown.size;
        kind = (pop p c s n x k).kind ∙ shown.kind;
        store = shows_from s' n k.plan.memory store
            (tells_then n (w p c s n x k) s v a.freed s' k.plan.memory store
            (word_then p c s n x k d v v2 s' a) (told s n k.plan named sent k.node shown k.steady));
        marks = marks_after;
        channels = channels_stay s s' n named named' k.node.machine after (λ b. refl)
            (λ j e. ap (λ (z : Value). (word_in z).used) (unsaved j (λ f. true≢false (sym f ∙ ap is_set_aside e))) ∙ e)
            (λ j e. engaged_back j e (used_after j))
            (λ b side. stay (Half n b side) refl refl (λ j. refl) refl) same_reason refl (λ b h e. refl) shown.channels;
        links = links_after;
        processes = processes_after;
        choices = choices_changed p s s' n m.links after.control.links store store x changed_choice shown.choices;
      }
    where
      -- a word in use as a channel or for an alternative is as it was, but for the one of the process
      lasting : (j : ℕ) → is_lasting (use_of s n j) ≡ true → (j ≡ below own_w 3 → ⊥)
          → s' (WordAt n j) ≡ s (WordAt n j)
      lasting j e f = word_then p c s n x k d v v2 s' a j ∙ by (a.freed.words j)
        where
          by : WordFreed n own_w s v j → v (WordAt n j) ≡ s (WordAt n j)
          by (inl g) = g
          by (inr (inl g)) = absurd (lasting_not_saved e g.0)
          by (inr (inr g)) = absurd (f g.0)

      -- that one is in use for no channel
      not_engaged : (j : ℕ) → use_of s n j ≡ Engaged → j ≡ below own_w 3 → ⊥
      not_engaged j e f = by a.third
        where
          differ : Engaged ≡ Saved → ⊥
          differ g = cc

          differ' : Engaged ≡ Awaiting → ⊥
          differ' g = cc

          by : ((rested.stand ≡ Rests d) × (use_of s n (below own_w 3) ≡ Saved))
              ⊎ ((rested.stand ≡ Chosen d) × (use_of s n (below own_w 3) ≡ Awaiting)
              × (v (WordAt n (below own_w 3)) ≡ a_word (used_word Choosing))) → ⊥
          by (inl g) = differ (sym e ∙ ap (use_of s n) f ∙ g.1)
          by (inr g) = differ' (sym e ∙ ap (use_of s n) f ∙ g.1)

      halves : (e : ℕ) (side : Side) → s' (Half n e side) ≡ s (Half n e side)
      halves e side = stay (Half n e side) refl refl (λ j. refl) refl

      enabler_is : (e : ℕ) → enabler_at s' n e ≡ enabler_at s n e
      enabler_is e = ap (λ (z : Value). enabler (half_in z)) (halves e Input)

      sent_is : (e : ℕ) → is_sent s' n e ≡ is_sent s n e
      sent_is e = ap (λ (z : Value). is_taken_half (half_in z)) (halves e Output)

      input_is : (l : ℕ) → input_at s' n l ≡ input_at s n l
      input_is l = ap link_in (half_stays l Input)

      due_is : (e : ℕ) → is_due s' n after.control.links e ≡ is_due s n m.links e
      due_is e =
          ap (λ (ls : List LinkEnd). is_due s' n ls e) (pop p c s n x k).links
          ∙ due_same s s' n m.links (λ b. halves b Output) e

      has_enabled : (e : ℕ) (y : Name) → HasEnabled s n e y → HasEnabled s' n e y
      has_enabled e y (inl (internal, f)) = inl (internal, enabler_is e ∙ f)
      has_enabled e y (inr (l, h, is, f)) = inr (l, h, is, ap link_enabler (input_is l) ∙ f)

      ports_are : (y : Name) → s' (Ports y) ≡ s (Ports y)
      ports_are y = stay (Ports y) refl refl (λ j. refl) refl

      enables_is : (y : Name) (e : ℕ) → enables s' n y e ≡ enables s n y e
      enables_is y e = ap (λ (z : Value). has_port e (ports_in z)) (ports_are y)

      old_choice : (e : rested.stand ≡ Chosen d) → HasChoice s n m.links store x (own_one false (chosen_choice e).0)
      old_choice e = shown.choices.choices x (own_one false (chosen_choice e).0) rested.home (chosen_before e)

      not_same : (y : Name) → same_name x y ≡ false → x ≡ y → ⊥
      not_same y f e = true≢false (sym (place_itself p (Standing x)) ∙ ap (same_name x) e ∙ f)

      -- the word of another alternative is another one
      other_state : (y : Name) (b : Alternative) → same_name x y ≡ false → y.node ≡ n → alternative_at s n y ≡ Some b
          → HasChoice s n m.links store y b → below b.wptr 3 ≡ below own_w 3 → ⊥
      other_state y b f home is it e = by a.third
        where
          by : Third → ⊥
          by (inl g) =
              lasting_not_saved (state_lasts (use_of s n (below b.wptr 3)) (ap is_state it.used ∙ state_use_is b.runs))
              (ap (use_of s n) e ∙ g.1)
          by (inr g) =
              let own = old_choice g.0 in
              not_same y f (shown.choices.apart x y (own_one false (chosen_choice g.0).0) b rested.home home
              (chosen_before g.0) is (one_workspace site whole d.wptr b.wptr own.small.1 it.small.1
              (subst (λ z. word_place_break z (word_below d.wptr 3) ≡ None) shown.size own.placed)
              (subst (λ z. word_place_break z (word_below b.wptr 3) ≡ None) shown.size it.placed)
              (ap (λ z. below z 3) wptr_is ∙ sym e)))

      ready_then : (skips : Bool) → IsReady s n m.links x skips → IsReady s' n after.control.links x skips
      ready_then skips (inl e) = inl e
      ready_then skips (inr (e, f, g)) = inr (e, enables_is x e ∙ f, due_is e ∙ g)

      unready_then : (skips : Bool) → IsUnready s n m.links x skips → IsUnready s' n after.control.links x skips
      unready_then skips (e, f) = (e, λ b g. due_is b ∙ f b (sym (enables_is x b) ∙ g))

      new_choice : (e : rested.stand ≡ Chosen d) → v (WordAt n (below own_w 3)) ≡ a_word (used_word Choosing)
          → HasChoice s' n after.control.links store x (own_one true (chosen_choice e).0)
      new_choice e put =
          record {
            small = (old_choice e).small;
            placed = (old_choice e).placed;
            used = ap (λ (z : Value). (word_in z).used) (word_then p c s n x k d v v2 s' a (below d.wptr 3))
                ∙ ap (use_of v n) (ap (λ z. below z 3) wptr_is) ∙ ap (λ (z : Value). (word_in z).used) put;
            unseen = ap (λ (z : Value). (word_in z).cells) (word_then p c s n x k d v v2 s' a (below d.wptr 3))
                ∙ ap (λ i. (word_in (v (WordAt n i))).cells) (ap (λ z. below z 3) wptr_is)
                ∙ ap (λ (z : Value). (word_in z).cells) put;
            state = by (old_choice e).state;
            unsent = unsent_still (below d.wptr 3) (old_choice e).unsent;
            unready = λ f. absurd (true≢false (sym f));
          }
        where
          address : ℕ
          address = word_below d.wptr state_word

          skips : Bool
          skips = (chosen_choice e).0.skips

          by : ((word_at store address ≡ ready) × IsReady s n m.links x skips)
              ⊎ ((word_at store address ≡ unready_word false) × IsUnready s n m.links x skips)
              → ((word_at store address ≡ ready) × IsReady s' n after.control.links x skips)
              ⊎ ((word_at store address ≡ unready_word false) × IsUnready s' n after.control.links x skips)
          by (inl (f, g)) = inl (f, ready_then skips g)
          by (inr (f, g)) = inr (f, unready_then skips g)

      own_choice : (b : Alternative) → alternative_at s' n x ≡ Some b → HasChoice s' n after.control.links store x b
      own_choice b e = by a.third
        where
          by : Third → HasChoice s' n after.control.links store x b
          by (inl g) = absurd (differ (sym (none_then g.0) ∙ e))
          by (inr g) =
              subst (HasChoice s' n after.control.links store x) (one_is (sym (chosen_now g.0) ∙ e))
              (new_choice g.0 g.2)

      own_apart : (b : Alternative) → alternative_at s' n x ≡ Some b → (y : Name) (b' : Alternative)
          → same_name x y ≡ false → y.node ≡ n → alternative_at s n y ≡ Some b' → b.wptr ≡ b'.wptr → ⊥
      own_apart b e y b' f home is same = by a.third
        where
          by : Third → ⊥
          by (inl g) = differ (sym (none_then g.0) ∙ e)
          by (inr g) =
              not_same y f (shown.choices.apart x y (own_one false (chosen_choice g.0).0) b' rested.home home
              (chosen_before g.0) is (ap (λ (z : Alternative). z.wptr) (one_is (sym (chosen_now g.0) ∙ e)) ∙ same))

      own_ports : (e : ℕ) → x.node ≡ n → enables s' n x e ≡ true
          → (b : Alternative) × (alternative_at s' n x ≡ Some b) × HasEnabled s' n e x
      own_ports e home f = by a.third
        where
          own : (b : Alternative) × (alternative_at s n x ≡ Some b) × HasEnabled s n e x
          own = shown.choices.owner x e home (sym (enables_is x e) ∙ f)

          by : Third → (b : Alternative) × (alternative_at s' n x ≡ Some b) × HasEnabled s' n e x
          by (inl g) = absurd (differ (sym (none_before g.0) ∙ own.1))
          by (inr g) = (own_one true (chosen_choice g.0).0, chosen_now g.0, has_enabled e x own.2)

      own_enabled : (e : ℕ) → enabler_at s' n e ≡ Some x → IsEnabled s' n store e x
      own_enabled e f =
          record {
            internal = old.internal;
            home = old.home;
            port = enables_is x e ∙ old.port;
            placed = old.placed;
            engaged = ap (λ (z : Value). (word_in z).used) (lasting (word_number e) (ap is_lasting old.engaged)
                (not_engaged (word_number e) old.engaged)) ∙ old.engaged;
            names = λ g b i. by g b i a.third;
            awaited = λ b i g. absurd (true≢false (sym g ∙ (alternative_context true false (record d { lent = None }) b
                (sym (ap (λ (z : Value). alternative_of (stand_in z)) a.runs.is) ∙ i)).3));
          }
        where
          old : IsEnabled s n store e x
          old = shown.choices.enabled e x (sym (enabler_is e) ∙ f)

          by : is_sent s' n e ≡ false → (b : Alternative) → alternative_at s' n x ≡ Some b → Third
              → word_at store e ≡ b.wptr + b.priority
          by g b i (inl h) = absurd (differ (sym (none_then h.0) ∙ i))
          by g b i (inr h) =
              old.names (sym (sent_is e) ∙ g) (own_one false (chosen_choice h.0).0) (chosen_before h.0)
              ∙ ap (λ (z : Alternative). z.wptr + z.priority) (one_is (sym (chosen_now h.0) ∙ i))

      own_linked : (l : ℕ) → l < 4 → enabler_on s' n l ≡ Some x → IsEnabledLink s' n l x
      own_linked l h e =
          let old : IsEnabledLink s n l x = shown.choices.linked l x h (sym (ap link_enabler (input_is l)) ∙ e) in
          record {
            home = old.home;
            port = enables_is x (input_channel l) ∙ old.port;
            awaited = λ b i g. absurd (true≢false (sym g ∙ (alternative_context true false (record d { lent = None }) b
                (sym (ap (λ (z : Value). alternative_of (stand_in z)) a.runs.is) ∙ i)).3));
          }

      changed_choice : IsChanged p s s' n m.links after.control.links store store x
      changed_choice =
          record {
            stands = λ y f home. ap (λ (z : Value). alternative_of (stand_in z)) (stand_stays y f);
            quiet = λ y f home e. ap (λ (z : Value). is_quiet (stand_in z)) (stand_stays y f) ∙ e;
            ports = λ y f home. ports_are y;
            inputs = λ e y f g. enabler_is e ∙ g;
            inputs_back = λ e y f g. sym (enabler_is e) ∙ g;
            held = λ e y f g. ap half_in (stay (Half n e Input) refl refl (λ j. refl) refl) ∙ g;
            unsent = λ j e z. unsent_still j z;
            sent = λ e y f g. sent_is e;
            size = refl;
            states = λ y b f home is it. (
              lasting (below b.wptr 3)
                  (state_lasts (use_of s n (below b.wptr 3)) (ap is_state it.used ∙ state_use_is b.runs))
                  (other_state y b f home is it),
              refl,
            );
            words = λ e y f g it. (
              ap (λ (z : Value). (word_in z).used) (lasting (word_number e) (ap is_lasting it.engaged)
                  (not_engaged (word_number e) it.engaged)) ∙ it.engaged,
              refl,
            );
            linked = λ l y f e. ap link_enabler (input_is l) ∙ e;
            linked_back = λ l y f e. sym (ap link_enabler (input_is l)) ∙ e;
            awaited = λ l y f e. input_is l ∙ e;
            noticed = λ l y f e. ap (λ (z : LinkEnd). z.noticed) (same_link l);
            own_quiet = ap (λ (z : Value). is_quiet (stand_in z)) a.runs.is;
            own_choice = own_choice;
            own_apart = own_apart;
            own_ports = own_ports;
            own_enabled = own_enabled;
            own_linked = own_linked;
          }

  pub dispatch_leads : LeadsTo p c n s'
  dispatch_leads =
      leads_by p c s s' k.shows n k.plan k.planned k.node k.here shown.works after ran.Dispatch
      ((λ e. cc), (λ e. cc)) (stepped p c s n x k) (hidden_now p c s n x k) named' sent' node_after
      (others_stay p c s n x k d v v2 s' a rested.home)
      (outputs_stay s s' n k.node node' (λ l. half_stays l Output) same_link)

abbrev memory_whole : (p : Plan) (c : Configuration) (s : State) (n : ℕ) (x : Name) (k : IsNext p c s n x)
    → k.plan.memory % 4 ≡ 0
memory_whole p c s n x k =
    whole_memory s n k.plan (k.shows.named n) (k.shows.sent n) k.node (shown_next p c s n x k) k.steady

-- a process goes on whose alternative was made to go on
pub chosen_then : (p : Plan) (plan : NodePlan) (n : ℕ) (s : State) (x : Name) (d : Context)
    (Q : Unit {0} → State → Type 0) → x.node ≡ n → slice_get p.nodes n ≡ Some plan
    → s (Standing x) ≡ IsStand (Chosen d) → After (goes_on_chosen (site_of n plan) x d) s Q
    → After (step_of p (Process x)) s Q
chosen_then p plan n s x d Q home planned stood h =
    subst (λ (v : Value). After (at_site p x.node (stepped_by p x (stand_in v))) s Q) (sym stood)
    (subst (λ j. After (at_site p j (stepped_by p x (Chosen d))) s Q) (sym home) at_node)
  where
    at_node : After (at_site p n (stepped_by p x (Chosen d))) s Q
    at_node = rw (planned, After) h

-- dispatches are seen
pub dispatches_are_seen : DispatchesAreSeen
dispatches_are_seen p c s s' n x k makes = after_step p x s s' (λ _ z. LeadsTo p c n z) makes (by rested.how)
  where
    rested : IsResting p c s n x k
    rested = rests_there p c s n x k

    d : Context
    d = rested.context

    site : Site
    site = site_of n k.plan

    own_w : ℕ
    own_w = w p c s n x k

    own : d.wptr ≡ own_w
    own = rested.saved.wptr ∙ same_workspace p c s n x k

    one : use_of s n (below own_w 1) ≡ Saved
    one = used_one s n own_w (own_words p c s n x k)

    two : use_of s n (below own_w 2) ≡ Saved
    two = used_two s n own_w (own_words p c s n x k)

    apart : (i j : ℕ) → 1 ≤ i → i < j → j ≤ 3 → below d.wptr j ≢ below d.wptr i
    apart i j e f g h =
        numbers_apart (length k.node.machine.store) (w p c s n x k) k.steady.placed.claimed.size (w_space p c s n x k)
        (w_small p c s n x k) i j e f g (subst (λ z. below z j ≡ below z i) own h)

    -- the output that is not over is so, and the process goes on
    goes : (v : State) → IsFreed n own_w s v
        → ((rested.stand ≡ Rests d) × (use_of s n (below own_w 3) ≡ Saved))
        ⊎ ((rested.stand ≡ Chosen d) × (use_of s n (below own_w 3) ≡ Awaiting)
        × (v (WordAt n (below own_w 3)) ≡ a_word (used_word Choosing)))
        → After (takes_back site d.lent >>= (λ _. goes_on x (record d { lent = None }))) v (λ _ z. LeadsTo p c n z)
    goes v freed third =
        after_bind (takes_back site d.lent) _ v (λ _ z. LeadsTo p c n z) (takes_back_then site d.lent v _ (λ v2 back.
        stands_then site p x (Runs (record d { lent = None })) v2 (λ _ z. LeadsTo p c n z) (λ s' runs.
        dispatch_leads p c s n x k v v2 s' (record {
          freed = freed;
          third = third;
          back = back;
          runs = runs;
        }))))

    by : (rested.stand ≡ Rests d) ⊎ ((rested.stand ≡ Chosen d) × (d.lent ≡ None))
        → After (step_of p (Process x)) s (λ _ z. LeadsTo p c n z)
    by (inl e) =
        resting_then p k.plan n s x d (λ _ z. LeadsTo p c n z) rested.home k.planned (rested.stood ∙ ap IsStand e)
        (after_bind (unsave site d.wptr) _ s (λ _ z. LeadsTo p c n z)
        (unsave_then site (memory_whole p c s n x k) d.wptr s _ (apart 2 3 (omega arith) (omega arith) (omega arith))
        (apart 1 3 (omega arith) (omega arith) (omega arith)) (apart 1 2 (omega arith) (omega arith) (omega arith))
        (λ v freed.
        goes v (all_freed site (memory_whole p c s n x k) own_w s v one two
        (subst (λ b. IsUnsaved site (memory_whole p c s n x k) s v b) own freed))
        (inl (e, subst (λ b. use_of s n (below b 3) ≡ Saved) own freed.saved_three)))))
    by (inr (e, none)) =
        chosen_then p k.plan n s x d (λ _ z. LeadsTo p c n z) rested.home k.planned (rested.stood ∙ ap IsStand e)
        (unsave_chosen_then site (memory_whole p c s n x k) d (goes_on x d) s
        (λ _ z. LeadsTo p c n z) (apart 2 3 (omega arith) (omega arith) (omega arith))
        (apart 1 3 (omega arith) (omega arith) (omega arith)) (apart 1 2 (omega arith) (omega arith) (omega arith))
        (subst (λ b. use_of s n (below b 1) ≡ Saved) (sym own) one)
        (subst (λ b. use_of s n (below b 2) ≡ Saved) (sym own) two) (λ v freed used put upper.
        subst (λ (l : Option Lent). After (goes_on x (record d { lent = l })) v (λ _ z. LeadsTo p c n z)) (sym none)
        (subst (λ (l : Option Lent). After (takes_back site l >>= (λ _. goes_on x (record d { lent = None }))) v
        (λ _ z. LeadsTo p c n z)) none (goes v (subst (λ b. IsFreed n b s v) own freed) (inr (
          e,
          subst (λ b. use_of s n (below b 3) ≡ Awaiting) own used,
          subst (λ b. v (WordAt n (below b 3)) ≡ a_word (used_word Choosing)) own put,
        ))))))
