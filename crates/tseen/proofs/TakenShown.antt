-- A process has taken its half of a link: its node is shown.
use Rattle.tseen.proofs.Choices.{is_state, state_lasts}
use Rattle.tprocesses.specs.Values.{amount_in}
use Rattle.tseen.proofs.LinkTaken.{free_three}
use Rattle.std.proofs.Common.{is_none}
use Rattle.tseen.proofs.Unclaimed.{aside_not_free}
use Rattle.tprocesses.specs.Values.{stand_in}
use Rattle.tprocesses.specs.Places.{Ports}
use Rattle.tseen.specs.Choices.{alternative_of, alternative_at, is_quiet, unfired, link_enabler, input_at, enabler_on}
use Rattle.tseen.specs.Choices.{remembered_at}
use Rattle.tseen.proofs.Choices.{is_lasting, lasting_not_free, stands_alike, quiet_alike}
use Rattle.tseen.proofs.Choices.{alternative_none, no_choice, choices_stay}
use Rattle.std.proofs.Common.{◌≡◌, ◌≢◌, ℕ, zero, suc, ◌+◌, ◌-◌, ◌*◌, ◌<◌, ◌≤◌, ◌%◌, ◌^◌, refl, sym, ap, subst, ◌∙◌}
use Rattle.std.proofs.Common.{Bool, true, false, true≢false, cond, List, [], ◌∷◌, ◌++◌, length, Contains, Option, Some}
use Rattle.std.proofs.Common.{None, arith, not, ◌⊎◌, inl, inr, pos, Ok, map, append_assoc}
use Rattle.std.specs.Prelude.{◌==◌, ◌&&◌, IfSome, is_some, is_none, nat_lt, nat_le, option_map, option_to_list}
use Rattle.std.proofs.lemmas.Bool.{cases_eq, eq-eqb, ne_eqb, eqb-true, and_parts, leb-true, ltb-true}
use Rattle.std.proofs.lemmas.List.Elements.{All-contains, Contains-append_cases}
use Rattle.std.proofs.lemmas.Option.{IfSome_then}
use Rattle.tword.specs.declared.span.Span.{Span}
use Rattle.tword.specs.Words.{most_neg, word_below}
use Rattle.tword.specs.Stores.{Store, place, word_at}
use Rattle.tword.specs.Touches.{word_place_break}
use Rattle.tcpu.specs.declared.registers.Registers.{Registers}
use Rattle.tproc.specs.declared.offer.Offer.{Offer}
use Rattle.tproc.specs.declared.channels.Side.{Side}
use Rattle.tproc.specs.declared.channels.Side.TheVariants.{Input, Output}
use Rattle.tproc.specs.declared.waiter.LinkEnd.{LinkEnd}
use Rattle.tproc.specs.declared.waiter.Reason.{Reason}
use Rattle.tproc.specs.declared.waiter.Reason.TheVariants.{LinkInput, LinkOutput}
use Rattle.tproc.specs.declared.waiter.Suspended.{Suspended}
use Rattle.tproc.specs.Channels.{Request}
use Rattle.tproc.specs.Hidden.{hidden}
use Rattle.tproc.specs.LinkChannels.{is_link, is_right_end, link_end, link_of, is_free, is_enabled_by_other, offer_of}
use Rattle.tproc.specs.LinkChannels.{ran_link}
use Rattle.tproc.specs.Machine.{Control, claims_of, descheduled, workspace_of, priority_of, buffer_of}
use Rattle.tproc.specs.Placement.{IsBuffer, IsWorkspace, IsWord, WaitsFor}
use Rattle.tproc.specs.ProcessStatus.{live, is_queued, reason_of}
use Rattle.tproc.specs.Queues.{iptr_word}
use Rattle.tproc.specs.Steps.{step}
use Rattle.tproc.proofs.WordsApart.{LiesWord}
use Rattle.tplan.specs.declared.plan.Plan.{Plan}
use Rattle.tnet.specs.Rendezvous.{Node, Configuration, put_node, was_copied, IsStep}
use Rattle.tplan.specs.Wires.{end_at, same_end}
use Rattle.tprocesses.specs.Places.{Place, Name, WordAt, Sending, Standing, Half, LinkHalf, Error, HaltOnError, Life}
use Rattle.tprocesses.specs.Places.{Population, HasRun, Unfinished, same_name, same_side}
use Rattle.tprocesses.specs.Values.{Value, Use, Free, Saved, Receiving, Engaged, Context, Lent, Stand, Rests, Runs}
use Rattle.tprocesses.specs.Values.{Waits, Request as Asked, Link, Empty, Offered, Enabled, Awaited, Fired, IsStand}
use Rattle.tprocesses.specs.Values.{IsFlag, IsAmount, IsLink, link_in, flag_in}
use Rattle.tprocesses.specs.Values.{word_in}
use Rattle.tprocesses.specs.Changes.{Add, Put, apply}
use Rattle.tprocesses.specs.LinkMessages.{is_empty}
use Rattle.tprocesses.specs.Standing.{forget}
use Rattle.tprocesses.specs.Touching.{word_number, word_count}
use Rattle.tprocesses.specs.Machine.{site_of, awaits_successor, is_passable}
use Rattle.tseen.specs.Known.{HasRegisters}
use Rattle.tseen.specs.Seats.{Seat, Current, Interrupted, Queued, Waiting, is_taken}
use Rattle.tseen.specs.Outputs.{Pending, covers, half_with, has_passed, is_sending, sendings}
use Rattle.tseen.specs.Words.{AreMarked, AreSavedWords, use_at}
use Rattle.tseen.specs.Halves.{ShowsLink, IsInput, reason_at, request_of}
use Rattle.tseen.specs.Processes.{IsSeated, IsGone, HasFlags, ShowsProcesses}
use Rattle.tseen.specs.Shown.{ShowsNode}
use Rattle.tseen.specs.Steps.{IsCurrent, LeadsTo}
use Rattle.tseen.proofs.After.{State, changed}
use Rattle.tseen.proofs.Asking.{IsAsking, reason_on, link_with, same_queued, reason_more, reason_back, reason_new}
use Rattle.tseen.proofs.Asking.{descheduled_more, own_link, other_link}
use Rattle.tseen.proofs.Built.{lies_below}
use Rattle.tseen.proofs.Cells.{use_of, shows_from}
use Rattle.tseen.proofs.ChannelsKept.{channels_kept}
use Rattle.tseen.proofs.Counted.{beside, count_at, one_more, live_beside, live_idle, waits_descheduled}
use Rattle.tseen.proofs.Counted.{queued_descheduled}
use Rattle.tseen.proofs.Finished.{is_stand_of, one_name, place_itself}
use Rattle.tseen.proofs.Frames.{node_at}
use Rattle.tseen.proofs.LinkRuns.{MayTake}
use Rattle.tseen.proofs.Nets.{chosen, net_shown}
use Rattle.tseen.proofs.Others.{other_name, queued_seated, waiting_seated, interrupted_seated, is_running}
use Rattle.tseen.proofs.Others.{queued_not_running, waiting_not_running}
use Rattle.tseen.proofs.QueueLinks.{word_alike}
use Rattle.tseen.proofs.Renamed.{waiting_named}
use Rattle.tseen.proofs.Running.{RunsThere}
use Rattle.tseen.proofs.Saving.{below, no_word}
use Rattle.tseen.proofs.Sending.{sendings_alike}
use Rattle.tseen.proofs.InputChannels.{KeepsInputs, descriptors_stay, remembered_stays, remembers_nobody}
use Rattle.tseen.proofs.NoticedOffers.{KeepsOffers, own_notices}
use Rattle.tseen.proofs.Staying.{saved_words_stay, each_contained, input_renamed, used_one}
use Rattle.tseen.proofs.Stepped.{shown_node, there, apart}
use Rattle.tseen.proofs.Stored.{GoesOn}
use Rattle.tseen.proofs.LinkTaken.{process, request, before, control', store'', made, ask, l, own_saved, unfree_stays}
use Rattle.tseen.proofs.LinkTaken.{used_now, receiving_now, free_in_span, lent_at, saved, saves, touches, free_one}
use Rattle.tseen.proofs.LinkTaken.{size'', unfree_cell, tells_now, iptr_there}
use Rattle.tseen.proofs.TakenBack.{is_sending_of, fewer_at, without}
use Rattle.tseen.proofs.DispatchShown.{found_waiting}
use Rattle.tseen.proofs.Taking.{IsAsked, IsSettled}
use Rattle.tseen.proofs.Writing.{word_lies}
use Rattle.tseen.proofs.Written.{is_word_of}

-- a place that may change where a process takes its half of a link
abbrev pub may_take : ℕ → Name → Place → Bool
may_take n x (WordAt m j) = n == m
may_take n x (Sending m j) = n == m
may_take n x (LinkHalf e side) = n == e.node
may_take n x (Standing y) = same_name x y
may_take n x _ = false

-- the outputs that are not over, with one that is offered
abbrev pub sent_with : Side → (link : ℕ) → Asked → (ℕ → Option Pending) → ℕ → Option Pending
sent_with Output l q sent j = chosen (l == j) (Some (record { request = q; copied = false })) (sent j)
sent_with Input l q sent j = sent j

module _ (p : Plan) (c : Configuration) (s : State) (n : ℕ) (x : Name) (k : IsCurrent p c s n x) (v : State)
    (store1 : Store) (on : GoesOn n k.plan.memory s v k.node.machine.store store1) (r : Registers)
    (same_wptr : r.wptr ≡ k.node.machine.control.registers.wptr) (small : r.iptr < 2 ^ 32) (d : Context)
    (knows : HasRegisters (there p c s n x k).level r d) (side : Side) (channel : ℕ) (buffer : Span) (s' : State)
    (a : IsAsked (site_of n k.plan) (there p c s n x k).whole x d side channel buffer v on.tells.words s')
    (on_link : is_link channel ≡ true) (same_error : r.error ≡ k.node.machine.control.registers.error)
    (same_halting : r.halt_on_error ≡ k.node.machine.control.registers.halt_on_error)
    (same_choice : d.choice ≡ (there p c s n x k).context.choice) where
  abbrev m : Control
  m = k.node.machine.control

  abbrev store : Store
  store = k.node.machine.store

  abbrev running : RunsThere s n k.plan k.node x
  running = there p c s n x k

  abbrev named : Seat → Name
  named = k.shows.named n

  abbrev sent : ℕ → Option Pending
  sent = k.shows.sent n

  abbrev own : ℕ
  own = process p c s n x k v store1 on r same_wptr small d knows side channel buffer s' a

  abbrev link : ℕ
  link = l p c s n x k v store1 on r same_wptr small d knows side channel buffer s' a

  abbrev asks : Request
  asks = request p c s n x k v store1 on r same_wptr small d knows side channel buffer s' a

  abbrev first_control : Control
  first_control = before p c s n x k v store1 on r same_wptr small d knows side channel buffer s' a

  abbrev now : Control
  now = control' p c s n x k v store1 on r same_wptr small d knows side channel buffer s' a

  abbrev q : IsAsking asks side first_control now
  q = ask p c s n x k v store1 on r same_wptr small d knows side channel buffer s' a

  abbrev seen_store : Store
  seen_store = store'' p c s n x k v store1 on r same_wptr small d knows side channel buffer s' a

  abbrev pub node' : Node
  node' = record k.node { machine = record { control = now; store = seen_store } }

  abbrev pub named' : Seat → Name
  named' = waiting_named (r.wptr + (there p c s n x k).level) x (k.shows.named n)

  shown : ShowsNode s n k.plan named sent k.node
  shown = shown_node p c s n x k

  aligned_now : r.wptr % 4 ≡ 0
  aligned_now = subst (λ z. z % 4 ≡ 0) (sym same_wptr) (eqb-true _ _ k.steady.placed.words.aligned)

  own_workspace : workspace_of own ≡ r.wptr
  own_workspace = omega (arith, aligned_now, running.small)

  own_priority : priority_of own ≡ running.level
  own_priority = omega (arith, aligned_now, running.small)

  link_small : link < 4
  link_small = by side refl
    where
      range : (nat_le most_neg channel ≡ true) × (nat_lt channel (most_neg + 32) ≡ true)
      range = and_parts _ _ on_link

      by : (sd : Side) → side ≡ sd → link < 4
      by Output e =
          subst (λ z. link_of z channel < 4) (sym e)
          (ltb-true _ _ (subst (λ z. is_right_end z channel ≡ true) e a.right))
      by Input e =
          subst (λ z. link_of z channel < 4) (sym e)
          (omega (arith, leb-true _ _ range.0, ltb-true _ _ range.1))

  links_four : link < length first_control.links
  links_four = subst (λ z. link < z) (sym k.steady.placed.claimed.links) link_small

  -- its half was empty
  half_before : is_empty (link_in (s (LinkHalf (end_at n link) side))) ≡ true
  half_before = ap (λ z. is_empty (link_in z)) (sym (on.keeps.others (LinkHalf (end_at n link) side) refl)) ∙ a.empty

  -- the process of the last output has gone on
  not_passed : side ≡ Output → has_passed (sent link) ≡ false
  not_passed e =
      ap flag_in (sym (shown.links link link_small).unfinished)
      ∙ ap flag_in (sym (on.keeps.others (Unfinished (end_at n link)) refl))
      ∙ subst (IsSettled (site_of n k.plan) (there p c s n x k).whole x d side channel buffer v on.tells.words) e
      a.settled

  nothing_sent : side ≡ Output → sent link ≡ None
  nothing_sent e = by (sent link) refl
    where
      shut : is_empty (half_with (sent link)) ≡ true
      shut =
          ap (λ z. is_empty (link_in z)) (sym (shown.links link link_small).output)
          ∙ ap (λ z. is_empty (link_in (s (LinkHalf (end_at n link) z)))) (sym e) ∙ half_before

      of : (b : Bool) (t : Pending) → sent link ≡ Some t → t.copied ≡ b → ⊥
      of true t f g = true≢false (sym g ∙ sym (ap has_passed f) ∙ not_passed e)
      of false t f g =
          true≢false (sym shut ∙ ap (λ o. is_empty (half_with o)) f
          ∙ ap (λ z. is_empty (half_with (Some (record { request = t.request; copied = z })))) g)

      by : (o : Option Pending) → sent link ≡ o → sent link ≡ None
      by None f = f
      by (Some t) f = absurd (of t.copied t f refl)

  no_output : side ≡ Output → (link_end m link).output ≡ None
  no_output e = by (link_end m link).output refl
    where
      by : (o : Option Offer) → (link_end m link).output ≡ o → (link_end m link).output ≡ None
      by None f = f
      by (Some o) f = absurd (differ (sym (nothing_sent e) ∙ (shown.links link link_small).offered o f))
        where
          differ : {t : Pending} → None ≡ Some t → ⊥
          differ e = cc

  empty_is : (h : Link) → is_empty h ≡ true → h ≡ Empty
  empty_is Empty e = refl
  empty_is (Offered g) e = absurd (true≢false (sym e))
  empty_is (Enabled y) e = absurd (true≢false (sym e))
  empty_is (Awaited y) e = absurd (true≢false (sym e))
  empty_is (Fired y) e = absurd (true≢false (sym e))

  empty_before : side ≡ Input → input_at s n link ≡ Empty
  empty_before e =
      empty_is (input_at s n link)
      (ap (λ z. is_empty (link_in (s (LinkHalf (end_at n link) z)))) (sym e) ∙ half_before)

  no_input : side ≡ Input → (link_end m link).input ≡ None
  no_input e = by (link_end m link).input refl
    where
      differ : {g : Asked} → Empty ≡ Offered g → ⊥
      differ e = cc

      by : (o : Option Offer) → (link_end m link).input ≡ o → (link_end m link).input ≡ None
      by None f = f
      by (Some o) f =
          absurd (differ (sym (empty_before e) ∙ ap link_in
          (subst (λ z. IsInput named z (s (LinkHalf (end_at n link) Input))) f (shown.links link link_small).input)))

  -- nobody has enabled it
  nobody_remembered : side ≡ Input → (link_end m link).remembered ≡ None
  nobody_remembered e = by (link_end m link).noticed refl
    where
      by : (t : Bool) → (link_end m link).noticed ≡ t → (link_end m link).remembered ≡ None
      by true f = (shown.links link link_small).forgotten f
      by false f =
          (shown.links link link_small).remembered f ∙ remembers_nobody s n link (ap unfired (empty_before e))

  -- so the processor may take it, whatever its count
  free : (count : ℕ) → is_free side (link_end m link) (record m { registers = r; count = count }) ≡ true
  free count = by side refl
    where
      by : (sd : Side) → side ≡ sd
          → is_free side (link_end m link) (record m { registers = r; count = count }) ≡ true
      by Output e =
          ap (λ z. is_free z (link_end m link) (record m { registers = r; count = count })) e
          ∙ ap (λ o. is_none o) (no_output e)
      by Input e =
          ap (λ z. is_free z (link_end m link) (record m { registers = r; count = count })) e
          ∙ ap (λ o. is_none o && not (is_enabled_by_other (record m { registers = r; count = count })
          (link_end m link).remembered)) (no_input e)
          ∙ ap (λ o. not (is_enabled_by_other (record m { registers = r; count = count }) o)) (nobody_remembered e)

  pub may_take_it : (count : ℕ)
      → MayTake asks (record m { registers = r; count = count }) (length store) (claims_of m)
  may_take_it count =
      record {
        on_link = on_link;
        aligned = a.aligned;
        right = a.right;
        some = a.some;
        free = free count;
        saves = saves p c s n x k v store1 on r same_wptr small d knows side channel buffer s' a;
        touches = touches p c s n x k v store1 on r same_wptr small d knows side channel buffer s' a;
      }

  -- who runs was none of those that are queued or wait
  is_new : (b : ℕ) → Contains (descheduled m) b → b ≡ r.wptr → ⊥
  is_new b h e =
      differ (sym (used_one s n b (All-contains (AreSavedWords s n) (descheduled m) b shown.marks.saved h))
      ∙ ap (λ z. use_of s n (below z 1)) e
      ∙ free_one p c s n x k v store1 on r same_wptr small d knows side channel buffer s' a)
    where
      differ : Saved ≡ Free → ⊥
      differ e = cc

  waits_not : (b : ℕ) → is_some (reason_of m b) ≡ true → b ≡ own → ⊥
  waits_not b h e = is_new (workspace_of b) (waits_descheduled m b h) (ap workspace_of e ∙ own_workspace)

  nobody_waits : is_some (reason_of first_control own) ≡ false
  nobody_waits = by (is_some (reason_of m own)) refl
    where
      by : (t : Bool) → is_some (reason_of m own) ≡ t → is_some (reason_of m own) ≡ false
      by false e = e
      by true e = absurd (waits_not own e refl)

  own_named : named' (Waiting own) ≡ x
  own_named = rw (eq-eqb own own refl) refl

  other_named : (b : ℕ) → (b ≡ own → ⊥) → named' (Waiting b) ≡ named (Waiting b)
  other_named b h = rw (ne_eqb b own h) refl

  -- what stays
  lent_others : (g : Place) → is_word_of n g ≡ false → is_sending_of n g ≡ false → a.v3 g ≡ a.v2 g
  lent_others g word sending = by side refl
    where
      by : (sd : Side) → side ≡ sd → a.v3 g ≡ a.v2 g
      by Output e =
          (lent_at p c s n x k v store1 on r same_wptr small d knows side channel buffer s' a Output e).others g sending
      by Input e =
          (lent_at p c s n x k v store1 on r same_wptr small d knows side channel buffer s' a Input e).others g word

  to_half : (g : Place) → is_stand_of x g ≡ false → is_word_of n g ≡ false → is_sending_of n g ≡ false
      → s' g ≡ changed (LinkHalf (end_at n link) side)
      (Put (IsLink (Offered (record { process = x; buffer = buffer })))) v g
  to_half g stand word sending =
      a.waits.others g stand ∙ lent_others g word sending
      ∙ (saved p c s n x k v store1 on r same_wptr small d knows side channel buffer s' a).set.rest g
      (no_word n r.wptr g word)

  stays : (g : Place) → may_take n x g ≡ false → s' g ≡ s g
  stays g h =
      to_half g (stand g h) (word g h) (sending g h) ∙ other g h ∙ on.keeps.others g (word g h)
    where
      stand : (g : Place) → may_take n x g ≡ false → is_stand_of x g ≡ false
      stand (Standing y) h = h
      stand _ h = refl

      word : (g : Place) → may_take n x g ≡ false → is_word_of n g ≡ false
      word (WordAt i j) h = h
      word _ h = refl

      sending : (g : Place) → may_take n x g ≡ false → is_sending_of n g ≡ false
      sending (Sending i j) h = h
      sending _ h = refl

      other : (g : Place) → may_take n x g ≡ false
          → changed (LinkHalf (end_at n link) side)
          (Put (IsLink (Offered (record { process = x; buffer = buffer })))) v g ≡ v g
      other (LinkHalf e sd) h = rw h refl
      other (WordAt i j) h = refl
      other (Sending i j) h = refl
      other (Standing y) h = refl
      other (Half i j sd) h = refl
      other _ h = refl

  own_half : s' (LinkHalf (end_at n link) side) ≡ IsLink (Offered (record { process = x; buffer = buffer }))
  own_half =
      to_half (LinkHalf (end_at n link) side) refl refl refl
      ∙ ap (λ t. cond t (IsLink (Offered (record { process = x; buffer = buffer })))
      (v (LinkHalf (end_at n link) side))) (place_itself p (LinkHalf (end_at n link) side))

  other_half : (j : ℕ) (sd : Side) → (same_end (end_at n link) (end_at n j) && same_side side sd) ≡ false
      → s' (LinkHalf (end_at n j) sd) ≡ s (LinkHalf (end_at n j) sd)
  other_half j sd h =
      to_half (LinkHalf (end_at n j) sd) refl refl refl ∙ rw h (on.keeps.others (LinkHalf (end_at n j) sd) refl)

  other_link_half : (j : ℕ) (sd : Side) → (j ≡ link → ⊥) → s' (LinkHalf (end_at n j) sd) ≡ s (LinkHalf (end_at n j) sd)
  other_link_half j sd h = other_half j sd (rw (eq-eqb n n refl, ne_eqb link j (λ e. h (sym e))) refl)

  stand_stays : (y : Name) → same_name x y ≡ false → s' (Standing y) ≡ s (Standing y)
  stand_stays y h = stays (Standing y) h

  run_stays : (j : ℕ) → s' (HasRun n j) ≡ s (HasRun n j)
  run_stays j = stays (HasRun n j) refl

  -- the outputs
  abbrev own_request : Asked
  own_request = record { process = x; buffer = buffer }

  abbrev pub sent' : ℕ → Option Pending
  sent' = sent_with side (link_of side channel) (record { process = x; buffer = buffer }) (k.shows.sent n)

  sent_own : side ≡ Output → sent' link ≡ Some (record { request = own_request; copied = false })
  sent_own e =
      ap (λ z. sent_with z link own_request sent link) e
      ∙ ap (λ t. chosen t (Some (record { request = own_request; copied = false })) (sent link)) (eq-eqb link link refl)

  sent_other : (j : ℕ) → (j ≡ link → ⊥) → sent' j ≡ sent j
  sent_other j h = by side refl
    where
      by : (sd : Side) → side ≡ sd → sent' j ≡ sent j
      by Output e =
          ap (λ z. sent_with z link own_request sent j) e
          ∙ ap (λ t. chosen t (Some (record { request = own_request; copied = false })) (sent j))
          (ne_eqb link j (λ f. h (sym f)))
      by Input e = ap (λ z. sent_with z link own_request sent j) e

  sent_input : side ≡ Input → (j : ℕ) → sent' j ≡ sent j
  sent_input e j = ap (λ z. sent_with z link own_request sent j) e

  sendings_now : (j : ℕ) → s' (Sending n j) ≡ IsAmount (pos (sendings sent' j))
  sendings_now j = by side refl
    where
      to_saved : a.v2 (Sending n j) ≡ IsAmount (pos (sendings sent j))
      to_saved =
          (saved p c s n x k v store1 on r same_wptr small d knows side channel buffer s' a).set.rest (Sending n j)
          (no_word n r.wptr (Sending n j) refl)
          ∙ on.keeps.others (Sending n j) refl ∙ shown.marks.outputs j

      others : side ≡ Output → (i : ℕ) → is_sending j (without link sent' i) ≡ is_sending j (sent i)
      others e i = of (cases_eq i link)
        where
          of : (i ≡ link) ⊎ (i ≡ link → ⊥) → is_sending j (without link sent' i) ≡ is_sending j (sent i)
          of (inl f) =
              ap (λ t. is_sending j (chosen t None (sent' i))) (eq-eqb link i (sym f))
              ∙ sym (ap (is_sending j) (ap sent f ∙ nothing_sent e))
          of (inr f) =
              ap (λ t. is_sending j (chosen t None (sent' i))) (ne_eqb link i (λ g. f (sym g)))
              ∙ ap (is_sending j) (sent_other i f)

      by : (sd : Side) → side ≡ sd → s' (Sending n j) ≡ IsAmount (pos (sendings sent' j))
      by Output e =
          a.waits.others (Sending n j) refl
          ∙ (lent_at p c s n x k v store1 on r same_wptr small d knows side channel buffer s' a Output e).sending j
          ∙ ap (λ z. chosen (covers j buffer) (apply (Add (pos 1)) z) z) to_saved
          ∙ one_more (sendings sent j) (covers j buffer)
          ∙ ap (λ z. IsAmount (pos z)) (sym (fewer_at link sent' j link_small
          ∙ ap (λ z. z + cond (is_sending j (sent' link)) 1 0) (sendings_alike (without link sent') sent j (others e))
          ∙ ap (λ o. sendings sent j + cond (is_sending j o) 1 0) (sent_own e)))
      by Input e =
          a.waits.others (Sending n j) refl
          ∙ (lent_at p c s n x k v store1 on r same_wptr small d knows side channel buffer s' a Input e).others
          (Sending n j) refl
          ∙ to_saved ∙ ap (λ z. IsAmount (pos z)) (sym (sendings_alike sent' sent j (λ i. ap (is_sending j)
          (sent_input e i))))

  -- the state of an alternative is not in the buffer
  unsent_still : (j : ℕ) → is_state (use_of s n j) ≡ true → amount_in (s (Sending n j)) ≡ pos 0
      → amount_in (s' (Sending n j)) ≡ pos 0
  unsent_still j e z =
      ap amount_in (sendings_now j)
      ∙ ap pos (sendings_alike sent' sent j (λ i. by side refl i (covers j buffer) refl))
      ∙ sym (ap amount_in (shown.marks.outputs j)) ∙ z
    where
      outside : covers j buffer ≡ true → ⊥
      outside f =
          let both = and_parts _ _ f in
          lasting_not_free (state_lasts (use_of s n j) e)
          (free_in_span p c s n x k v store1 on r same_wptr small d knows side channel buffer s' a j
          (leb-true _ _ both.0) (ltb-true _ _ both.1))

      at_link : side ≡ Output → (i : ℕ) → covers j buffer ≡ false → (i ≡ link) ⊎ (i ≡ link → ⊥)
          → is_sending j (sent' i) ≡ is_sending j (sent i)
      at_link f i t (inl g) =
          ap (λ l. is_sending j (sent' l)) g ∙ ap (is_sending j) (sent_own f) ∙ t
          ∙ sym (ap (is_sending j) (ap sent g ∙ nothing_sent f))
      at_link f i t (inr g) = ap (is_sending j) (sent_other i g)

      by : (sd : Side) → side ≡ sd → (i : ℕ) → (t : Bool) → covers j buffer ≡ t
          → is_sending j (sent' i) ≡ is_sending j (sent i)
      by Input f i t h = ap (is_sending j) (sent_input f i)
      by Output f i true h = absurd (outside h)
      by Output f i false h = at_link f i h (cases_eq i link)

  -- the link with its offer
  end_is : link_end now link ≡ link_with side (offer_of asks) (link_end m link)
  end_is = own_link asks side first_control now q links_four

  end_at_side : (sd : Side) → side ≡ sd → link_end now link ≡ link_with sd (offer_of asks) (link_end m link)
  end_at_side sd e = end_is ∙ ap (λ z. link_with z (offer_of asks) (link_end m link)) e

  one_offer : {o t : Offer} → Some o ≡ Some t → o ≡ t
  one_offer e = cc

  still_input : (j : ℕ) (o : Offer) → (link_end now j).input ≡ Some o
      → ((link_end m j).input ≡ Some o) ⊎ ((side ≡ Input) × (j ≡ link) × (o ≡ offer_of asks))
  still_input j o h = by (cases_eq j link) side refl
    where
      by : (j ≡ link) ⊎ (j ≡ link → ⊥) → (sd : Side) → side ≡ sd
          → ((link_end m j).input ≡ Some o) ⊎ ((side ≡ Input) × (j ≡ link) × (o ≡ offer_of asks))
      by (inr e) sd f =
          inl (ap (λ (z : LinkEnd). z.input) (sym (other_link asks side first_control now q j e)) ∙ h)
      by (inl e) Output f =
          inl (ap (λ i. (link_end m i).input) e ∙ ap (λ (z : LinkEnd). z.input) (sym (end_at_side Output f))
          ∙ ap (λ i. (link_end now i).input) (sym e) ∙ h)
      by (inl e) Input f =
          inr (
            f,
            e,
            one_offer (sym h ∙ ap (λ i. (link_end now i).input) e
                ∙ ap (λ (z : LinkEnd). z.input) (end_at_side Input f)),
          )

  still_output : (j : ℕ) (o : Offer) → (link_end now j).output ≡ Some o
      → ((link_end m j).output ≡ Some o) × (sent' j ≡ sent j)
      ⊎ ((side ≡ Output) × (j ≡ link) × (o ≡ offer_of asks))
  still_output j o h = by (cases_eq j link) side refl
    where
      by : (j ≡ link) ⊎ (j ≡ link → ⊥) → (sd : Side) → side ≡ sd
          → ((link_end m j).output ≡ Some o) × (sent' j ≡ sent j)
          ⊎ ((side ≡ Output) × (j ≡ link) × (o ≡ offer_of asks))
      by (inr e) sd f =
          inl (
            ap (λ (z : LinkEnd). z.output) (sym (other_link asks side first_control now q j e)) ∙ h,
            sent_other j e,
          )
      by (inl e) Input f =
          inl (
            ap (λ i. (link_end m i).output) e ∙ ap (λ (z : LinkEnd). z.output) (sym (end_at_side Input f))
                ∙ ap (λ i. (link_end now i).output) (sym e) ∙ h,
            sent_input f j,
          )
      by (inl e) Output f =
          inr (
            f,
            e,
            one_offer (sym h ∙ ap (λ i. (link_end now i).output) e
                ∙ ap (λ (z : LinkEnd). z.output) (end_at_side Output f)),
          )

  -- who waits at a link has the name that it had
  input_named : (j : ℕ) (o : Offer) → (link_end m j).input ≡ Some o
      → named' (Waiting o.wdesc) ≡ named (Waiting o.wdesc)
  input_named j o e =
      other_named o.wdesc (waits_not o.wdesc (found_waiting m.waiting o.wdesc (LinkInput j)
      (subst (λ (z : Option Offer). IfSome z (λ o. WaitsFor m o.wdesc (LinkInput j) × IsBuffer (length store) o)) e
      (k.steady.placed.claimed.inputs j)).0))

  output_named : (j : ℕ) (o : Offer) → (link_end m j).output ≡ Some o
      → named' (Waiting o.wdesc) ≡ named (Waiting o.wdesc)
  output_named j o e =
      other_named o.wdesc (waits_not o.wdesc (found_waiting m.waiting o.wdesc (LinkOutput j)
      (subst (λ (z : Option Offer). IfSome z (λ o. WaitsFor m o.wdesc (LinkOutput j) × IsBuffer (length store) o)) e
      (k.steady.placed.claimed.outputs j)).0))

  side_apart : (sd other : Side) → same_side sd other ≡ false → side ≡ sd
      → s' (LinkHalf (end_at n link) other) ≡ s (LinkHalf (end_at n link) other)
  side_apart sd other h e =
      other_half link other (ap (λ z. same_end (end_at n link) (end_at n link) && same_side z other) e
      ∙ ap (λ t. same_end (end_at n link) (end_at n link) && t) h
      ∙ both (same_end (end_at n link) (end_at n link)))
    where
      both : (b : Bool) → (b && false) ≡ false
      both true = refl
      both false = refl

  -- the input of a link stays, or is that which was taken
  record IsKeptInput (j : ℕ) : Type 0 where
    input : (link_end now j).input ≡ (link_end m j).input
    noticed : (link_end now j).noticed ≡ (link_end m j).noticed
    remembered : (link_end now j).remembered ≡ (link_end m j).remembered
    half : s' (LinkHalf (end_at n j) Input) ≡ s (LinkHalf (end_at n j) Input)

  abbrev IsOwnInput : ℕ → Type 0
  IsOwnInput j = (side ≡ Input) × (j ≡ link)

  input_cases : (j : ℕ) → IsKeptInput j ⊎ IsOwnInput j
  input_cases j = by (cases_eq j link) side refl
    where
      alike : (e : j ≡ link) → (f : side ≡ Output)
          → link_end now j ≡ record (link_end m j) { output = Some (offer_of asks) }
      alike e f =
          ap (link_end now) e ∙ end_at_side Output f
          ∙ ap (λ i. record (link_end m i) { output = Some (offer_of asks) }) (sym e)

      by : (j ≡ link) ⊎ (j ≡ link → ⊥) → (sd : Side) → side ≡ sd → IsKeptInput j ⊎ IsOwnInput j
      by (inr e) sd f =
          let same : link_end now j ≡ link_end m j = other_link asks side first_control now q j e in
          inl (record {
            input = ap (λ (z : LinkEnd). z.input) same;
            noticed = ap (λ (z : LinkEnd). z.noticed) same;
            remembered = ap (λ (z : LinkEnd). z.remembered) same;
            half = other_link_half j Input e;
          })
      by (inl e) Output f =
          inl (record {
            input = ap (λ (z : LinkEnd). z.input) (alike e f);
            noticed = ap (λ (z : LinkEnd). z.noticed) (alike e f);
            remembered = ap (λ (z : LinkEnd). z.remembered) (alike e f);
            half = ap (λ i. s' (LinkHalf (end_at n i) Input)) e ∙ side_apart Output Input refl f
                ∙ ap (λ i. s (LinkHalf (end_at n i) Input)) (sym e);
          })
      by (inl e) Input f = inr (f, e)

  own_end : (j : ℕ) → IsOwnInput j → link_end now j ≡ link_with Input (offer_of asks) (link_end m link)
  own_end j (f, e) = ap (link_end now) e ∙ end_at_side Input f

  own_input : (j : ℕ) → IsOwnInput j → s' (LinkHalf (end_at n j) Input) ≡ IsLink (Offered own_request)
  own_input j (f, e) =
      ap (λ i. s' (LinkHalf (end_at n i) Input)) e ∙ ap (λ z. s' (LinkHalf (end_at n link) z)) (sym f) ∙ own_half

  own_before : (j : ℕ) → IsOwnInput j → input_at s n j ≡ Empty
  own_before j (f, e) = ap (λ i. input_at s n i) e ∙ empty_before f

  inputs_kept : KeepsInputs s s' n m.links now.links
  inputs_kept = record { inputs = λ j. inputs j (input_cases j); noticed = λ j y e. noticed j y e (input_cases j) }
    where
      inputs : (j : ℕ) → IsKeptInput j ⊎ IsOwnInput j
          → (input_at s' n j ≡ input_at s n j) ⊎ ((enabler_on s' n j ≡ None) × (enabler_on s n j ≡ None))
      inputs j (inl e) = inl (ap link_in e.half)
      inputs j (inr e) =
          inr (ap (λ z. link_enabler (link_in z)) (own_input j e), ap link_enabler (own_before j e))

      noticed : (j : ℕ) (y : Name) → enabler_on s n j ≡ Some y → IsKeptInput j ⊎ IsOwnInput j
          → (link_end now j).noticed ≡ (link_end m j).noticed
      noticed j y e (inl f) = f.noticed
      noticed j y e (inr f) = absurd (differ (sym (ap link_enabler (own_before j f)) ∙ e))
        where
          differ : {y : Name} → None ≡ Some y → ⊥
          differ e = cc

  -- the alternatives stay
  no_alternative : running.context.choice ≡ None
  no_alternative =
      no_choice s n m.links store x running.context shown.choices running.home running.stood
      (subst (λ z. use_of s n (word_number (word_below z 3)) ≡ Free) (same_wptr ∙ sym running.registers.wptr)
      (free_three p c s n x k v store1 on r same_wptr small d knows side channel buffer s' a))

  alternative_now : alternative_at s' n x ≡ None
  alternative_now = ap (λ (z : Value). alternative_of (stand_in z)) a.waits.is

  alternative_before : alternative_at s n x ≡ None
  alternative_before =
      ap (λ (z : Value). alternative_of (stand_in z)) running.stood
      ∙ alternative_none true false running.context no_alternative

  alternatives : (y : Name) → alternative_at s' n y ≡ alternative_at s n y
  alternatives = stands_alike p s s' n x stand_stays (alternative_now ∙ sym alternative_before)

  link_shown : (j : ℕ) → j < 4 → ShowsLink s' n named' sent' node' j
  link_shown j b =
      record {
        input = input (input_cases j);
        output = output (cases_eq j link) side refl;
        unfinished = stays (Unfinished (end_at n j)) refl ∙ old.unfinished
            ∙ ap (λ z. IsFlag z) (passed (cases_eq j link) side refl);
        offered = λ o e. offered o (still_output j o e);
        fresh = λ e. fresh e (cases_eq j link) side refl;
        unnoticed = λ o e. unnoticed o e (input_cases j);
        remembered = λ e. remembered e (input_cases j);
        forgotten = λ e. forgotten e (input_cases j);
        fired = λ y e. fired y e (input_cases j);
        pending = λ t e f. pending t e f (cases_eq j link) side refl;
      }
    where
      old : ShowsLink s n named sent k.node j
      old = shown.links j b

      input : IsKeptInput j ⊎ IsOwnInput j
          → IsInput named' (link_end now j).input (s' (LinkHalf (end_at n j) Input))
      input (inl e) =
          subst (λ o. IsInput named' o (s' (LinkHalf (end_at n j) Input))) (sym e.input)
          (input_renamed named named' (link_end m j).input _ _ (λ o f. input_named j o f) e.half old.input)
      input (inr e) =
          subst (λ o. IsInput named' o (s' (LinkHalf (end_at n j) Input)))
          (sym (ap (λ (z : LinkEnd). z.input) (own_end j e)))
          (own_input j e ∙ ap (λ y. IsLink (Offered (record { process = y; buffer = buffer }))) (sym own_named))

      passed : (j ≡ link) ⊎ (j ≡ link → ⊥) → (sd : Side) → side ≡ sd → has_passed (sent j) ≡ has_passed (sent' j)
      passed (inr e) sd f = ap has_passed (sym (sent_other j e))
      passed (inl e) Input f = ap has_passed (sym (sent_input f j))
      passed (inl e) Output f =
          ap (λ i. has_passed (sent i)) e ∙ ap has_passed (nothing_sent f) ∙ sym (ap has_passed (sent_own f))
          ∙ ap (λ i. has_passed (sent' i)) (sym e)

      unnoticed : (o : Offer) → (link_end now j).input ≡ Some o → IsKeptInput j ⊎ IsOwnInput j
          → (link_end now j).noticed ≡ false
      unnoticed o e (inl f) = f.noticed ∙ old.unnoticed o (sym f.input ∙ e)
      unnoticed o e (inr f) = ap (λ (z : LinkEnd). z.noticed) (own_end j f)

      remembered : (link_end now j).noticed ≡ false → IsKeptInput j ⊎ IsOwnInput j
          → (link_end now j).remembered ≡ remembered_at s' n j
      remembered e (inl f) =
          f.remembered ∙ old.remembered (sym f.noticed ∙ e)
          ∙ sym (remembered_stays s s' n j (ap link_in f.half)
          (descriptors_stay s s' n m.links store shown.choices (λ y h. alternatives y) j b))
      remembered e (inr f) =
          ap (λ (z : LinkEnd). z.remembered) (own_end j f)
          ∙ sym (remembers_nobody s' n j (ap (λ z. unfired (link_in z)) (own_input j f)))

      forgotten : (link_end now j).noticed ≡ true → IsKeptInput j ⊎ IsOwnInput j → (link_end now j).remembered ≡ None
      forgotten e (inl f) = f.remembered ∙ old.forgotten (sym f.noticed ∙ e)
      forgotten e (inr f) = ap (λ (z : LinkEnd). z.remembered) (own_end j f)

      fired : (y : Name) → s' (LinkHalf (end_at n j) Input) ≡ IsLink (Fired y) → IsKeptInput j ⊎ IsOwnInput j
          → (link_end now j).noticed ≡ true
      fired y e (inl f) = f.noticed ∙ old.fired y (sym f.half ∙ e)
      fired y e (inr f) = absurd (differ (sym (own_input j f) ∙ e))
        where
          differ : {g : Asked} → IsLink (Offered g) ≡ IsLink (Fired y) → ⊥
          differ e = cc

      output : (j ≡ link) ⊎ (j ≡ link → ⊥) → (sd : Side) → side ≡ sd
          → s' (LinkHalf (end_at n j) Output) ≡ IsLink (half_with (sent' j))
      output (inr e) sd f =
          other_link_half j Output e ∙ old.output ∙ ap (λ o. IsLink (half_with o)) (sym (sent_other j e))
      output (inl e) Input f =
          ap (λ i. s' (LinkHalf (end_at n i) Output)) e ∙ side_apart Input Output refl f
          ∙ ap (λ i. s (LinkHalf (end_at n i) Output)) (sym e) ∙ old.output
          ∙ ap (λ o. IsLink (half_with o)) (sym (sent_input f j))
      output (inl e) Output f =
          ap (λ i. s' (LinkHalf (end_at n i) Output)) e
          ∙ ap (λ z. s' (LinkHalf (end_at n link) z)) (sym f) ∙ own_half
          ∙ ap (λ o. IsLink (half_with o)) (sym (sent_own f)) ∙ ap (λ i. IsLink (half_with (sent' i))) (sym e)

      offered : (o : Offer)
          → ((link_end m j).output ≡ Some o) × (sent' j ≡ sent j)
          ⊎ ((side ≡ Output) × (j ≡ link) × (o ≡ offer_of asks))
          → sent' j ≡ Some (record { request = request_of named' o; copied = was_copied node' j })
      offered o (inl e) =
          e.1 ∙ old.offered o e.0
          ∙ ap (λ y. Some (record {
            request = record { process = y; buffer = buffer_of o };
            copied = was_copied k.node j;
          })) (sym (output_named j o e.0))
      offered o (inr e) =
          ap sent' e.1 ∙ sent_own e.0
          ∙ ap (λ y. Some (record {
            request = record { process = y; buffer = buffer };
            copied = false;
          })) (sym own_named)
          ∙ ap (λ t. Some (record { request = request_of named' (offer_of asks); copied = t }))
          (sym (old.fresh (ap (λ i. (link_end m i).output) e.1 ∙ no_output e.0)))
          ∙ ap (λ z. Some (record { request = request_of named' z; copied = was_copied k.node j })) (sym e.2)

      fresh : (link_end now j).output ≡ None → (j ≡ link) ⊎ (j ≡ link → ⊥) → (sd : Side) → side ≡ sd
          → was_copied node' j ≡ false
      fresh h (inr e) sd f =
          old.fresh (ap (λ (z : LinkEnd). z.output) (sym (other_link asks side first_control now q j e)) ∙ h)
      fresh h (inl e) Input f =
          old.fresh (ap (λ i. (link_end m i).output) e ∙ ap (λ (z : LinkEnd). z.output) (sym (end_at_side Input f))
          ∙ ap (λ i. (link_end now i).output) (sym e) ∙ h)
      fresh h (inl e) Output f = old.fresh (ap (λ i. (link_end m i).output) e ∙ no_output f)

      pending : (t : Pending) → sent' j ≡ Some t → t.copied ≡ false → (j ≡ link) ⊎ (j ≡ link → ⊥) → (sd : Side)
          → side ≡ sd → (o : Offer) × ((link_end now j).output ≡ Some o)
      pending t h g (inr e) sd f =
          let o = old.pending t (sym (sent_other j e) ∙ h) g in
          (o.0, ap (λ (z : LinkEnd). z.output) (other_link asks side first_control now q j e) ∙ o.1)
      pending t h g (inl e) Input f =
          let o = old.pending t (sym (sent_input f j) ∙ h) g in (
            o.0,
            ap (λ i. (link_end now i).output) e ∙ ap (λ (z : LinkEnd). z.output) (end_at_side Input f)
                ∙ ap (λ i. (link_end m i).output) (sym e) ∙ o.1,
          )
      pending t h g (inl e) Output f = (
        offer_of asks,
        ap (λ i. (link_end now i).output) e ∙ ap (λ (z : LinkEnd). z.output) (end_at_side Output f),
      )

  unfree_stays_here : (j : ℕ) → (use_of s n j ≡ Free → ⊥) → s' (WordAt n j) ≡ s (WordAt n j)
  unfree_stays_here =
      unfree_stays p c s n x k v store1 on r same_wptr small d knows side channel buffer s' a

  saved_not_free : {u : Use} → u ≡ Saved → u ≡ Free → ⊥
  saved_not_free e f = differ (sym e ∙ f)
    where
      differ : Saved ≡ Free → ⊥
      differ e = cc

  receiving_not_free : {u : Use} → u ≡ Receiving → u ≡ Free → ⊥
  receiving_not_free e f = differ (sym e ∙ f)
    where
      differ : Receiving ≡ Free → ⊥
      differ e = cc

  engaged_not_free : {u : Use} → u ≡ Engaged → u ≡ Free → ⊥
  engaged_not_free e f = differ (sym e ∙ f)
    where
      differ : Engaged ≡ Free → ⊥
      differ e = cc

  -- a word of a pending input, and of the buffer that is lent
  covered : (i : ℕ) (span : Span) → covers i span ≡ true
      → (word_number span.start ≤ i) × (i < word_number span.start + word_count span)
  covered i span h =
      let both : (nat_le (word_number span.start) i ≡ true)
      × (nat_lt i (word_number span.start + word_count span) ≡ true) = and_parts _ _ h in
      (leb-true _ _ both.0, ltb-true _ _ both.1)

  old_covers : (i j : ℕ) (o : Offer) → (link_end m j).input ≡ Some o → covers i (buffer_of o) ≡ true
      → use_of s n i ≡ Receiving
  old_covers i j o e h =
      let b = covered i (buffer_of o) h in
      subst (λ z. use_of s n z ≡ Receiving) (omega (arith, b.0))
      (shown.marks.inputs j o e (i - word_number o.buffer) (omega (arith, b.0, b.1)))

  new_covers : (i : ℕ) (o : Offer) → o ≡ offer_of asks → covers i (buffer_of o) ≡ true → use_of s n i ≡ Free
  new_covers i o e h =
      let b = covered i buffer (subst (λ z. covers i (buffer_of z) ≡ true) e h) in
      free_in_span p c s n x k v store1 on r same_wptr small d knows side channel buffer s' a i b.0 b.1

  marks_now : AreMarked s' n sent' now
  marks_now =
      record {
        saved = each_contained (AreSavedWords s' n) (descheduled now) (λ b h. saved_each b (Contains-append_cases
            (descheduled first_control) (workspace_of own ∷ []) b
            (subst (λ (ds : List ℕ). Contains ds b) (descheduled_more asks side first_control now q) h)));
        inputs = λ j o e i h. inputs j o (still_input j o e) i h;
        inputs_apart = λ i j g o t e f. apart i j g o t (still_input j o e) (still_input g t f);
        outputs = sendings_now;
        no_successor = λ j. none_due j (used_now p c s n x k v store1 on r same_wptr small d knows side channel buffer
            s' a j);
      }
    where
      saved_each : (b : ℕ) → Contains (descheduled m) b ⊎ Contains (workspace_of own ∷ []) b → AreSavedWords s' n b
      saved_each b (inl h) =
          saved_words_stay s s' n b (λ j e. unfree_stays_here j (aside_not_free e))
          (All-contains (AreSavedWords s n) (descheduled m) b shown.marks.saved h)
      saved_each b (inr (zero, h, e)) =
          subst (AreSavedWords s' n) (sym own_workspace ∙ e)
          (own_saved p c s n x k v store1 on r same_wptr small d knows side channel buffer s' a)
      saved_each b (inr (suc i, h, e)) = absurd (omega (arith, h))

      inputs : (j : ℕ) (o : Offer)
          → ((link_end m j).input ≡ Some o) ⊎ ((side ≡ Input) × (j ≡ link) × (o ≡ offer_of asks))
          → (i : ℕ) → i < word_count (buffer_of o) → use_of s' n (word_number o.buffer + i) ≡ Receiving
      inputs j o (inl e) i h =
          let used : use_of s n (word_number o.buffer + i) ≡ Receiving = shown.marks.inputs j o e i h in
          ap (λ (z : Value). (word_in z).used)
          (unfree_stays_here (word_number o.buffer + i) (receiving_not_free used)) ∙ used
      inputs j o (inr e) i h =
          let b : i < word_count buffer = subst (λ z. i < word_count (buffer_of z)) e.2 h in
          subst (λ z. use_of s' n (word_number z.buffer + i) ≡ Receiving) (sym e.2)
          (receiving_now p c s n x k v store1 on r same_wptr small d knows side channel buffer s' a e.0
          (word_number buffer.start + i) (omega arith) (omega (arith, b)))

      apart : (i j g : ℕ) (o t : Offer)
          → ((link_end m j).input ≡ Some o) ⊎ ((side ≡ Input) × (j ≡ link) × (o ≡ offer_of asks))
          → ((link_end m g).input ≡ Some t) ⊎ ((side ≡ Input) × (g ≡ link) × (t ≡ offer_of asks))
          → covers i (buffer_of o) ≡ true → covers i (buffer_of t) ≡ true → j ≡ g
      apart i j g o t (inl e) (inl f) h z = shown.marks.inputs_apart i j g o t e f h z
      apart i j g o t (inl e) (inr f) h z =
          absurd (receiving_not_free (old_covers i j o e h) (new_covers i t f.2 z))
      apart i j g o t (inr e) (inl f) h z =
          absurd (receiving_not_free (old_covers i g t f z) (new_covers i o e.2 h))
      apart i j g o t (inr e) (inr f) h z = e.1 ∙ sym f.1

      none_due : (j : ℕ)
          → (use_of s' n j ≡ Saved) ⊎ ((use_of s' n j ≡ Receiving) ⊎ (use_of s' n j ≡ use_of s n j))
          → awaits_successor (use_of s' n j) ≡ false
      none_due j (inl e) = ap awaits_successor e
      none_due j (inr (inl e)) = ap awaits_successor e
      none_due j (inr (inr e)) = ap awaits_successor e ∙ shown.marks.no_successor j

  -- what was not free stands
  size_now : length seen_store ≡ length store
  size_now =
      size'' p c s n x k v store1 on r same_wptr small d knows side channel buffer s' a ∙ sym shown.size

  iptr_stays : (b : ℕ) → Contains (descheduled m) b
      → word_at seen_store (word_below b iptr_word) ≡ word_at store (word_below b iptr_word)
  iptr_stays b h =
      word_alike store seen_store (word_below b 1) size_now at (λ j e.
      unfree_cell p c s n x k v store1 on r same_wptr small d knows side channel buffer s' a
      (place (word_below b 1) + j) (saved_not_free (ap (use_of s n) (omega (arith, e, at.above, at.aligned))
      ∙ used_one s n b (All-contains (AreSavedWords s n) (descheduled m) b shown.marks.saved h))))
    where
      at : LiesWord (length store) (word_below b 1)
      at =
          lies_below (length store) b 1 k.steady.placed.claimed.size
          (All-contains (IsWorkspace (length store)) (descheduled m) b k.steady.placed.claimed.saved h)
          (All-contains IsWord (descheduled m) b k.steady.placed.workspaces h) (omega arith, omega arith)

  lasting_word : (b : ℕ) → word_place_break (length store) b ≡ None → is_lasting (use_at s n b) ≡ true
      → word_at seen_store b ≡ word_at store b
  lasting_word b h e =
      let at : (place b ≡ 4 * word_number b) × (most_neg ≤ b) × (4 * word_number b + 4 ≤ k.plan.memory) =
      word_lies (site_of n k.plan) running.whole b (subst (λ z. word_place_break z b ≡ None) shown.size h) in
      word_alike store seen_store b size_now
      (record {
        above = at.1;
        within = omega (arith, at.0, at.2, shown.size);
        aligned = omega (arith, at.0, at.1);
      }) (λ j f.
      unfree_cell p c s n x k v store1 on r same_wptr small d knows side channel buffer s' a (place b + j)
      (lasting_not_free (ap is_lasting (ap (use_of s n) (omega (arith, at.0, f))) ∙ e)))

  engaged_back : (j : ℕ) → use_of s' n j ≡ Engaged
      → (use_of s' n j ≡ Saved) ⊎ ((use_of s' n j ≡ Receiving) ⊎ (use_of s' n j ≡ use_of s n j))
      → use_of s n j ≡ Engaged
  engaged_back j e (inl f) = absurd (differ (sym e ∙ f))
    where
      differ : Engaged ≡ Saved → ⊥
      differ e = cc
  engaged_back j e (inr (inl f)) = absurd (differ (sym e ∙ f))
    where
      differ : Engaged ≡ Receiving → ⊥
      differ e = cc
  engaged_back j e (inr (inr f)) = sym f ∙ e

  no_channel : (sd : Side) (ch : ℕ) (span : Span) → Some (reason_on side link) ≡ Some (reason_at sd ch span) → ⊥
  no_channel sd ch span = by side sd
    where
      by : (one two : Side) → Some (reason_on one link) ≡ Some (reason_at two ch span) → ⊥
      by Input Input e = cc
      by Input Output e = cc
      by Output Input e = cc
      by Output Output e = cc

  reason_own : reason_of now own ≡ Some (reason_on side link)
  reason_own = reason_new asks side first_control now q nobody_waits

  -- its seat
  own_taken : is_some (reason_of now own) ≡ true
  own_taken = ap (λ (o : Option Reason). is_some o) reason_own

  own_seated : IsSeated s' n node' (Waiting own) x
  own_seated =
      record {
        home = running.home;
        stand = Waits (forget d);
        stands = a.waits.is;
        fits = (
          record {
            priority = knows.priority ∙ sym own_priority;
            wptr = knows.wptr ∙ sym own_workspace;
            iptr = knows.iptr
                ∙ sym (iptr_there p c s n x k v store1 on r same_wptr small d knows side channel buffer s' a)
                ∙ ap (λ z. word_at seen_store (word_below z iptr_word)) (sym own_workspace);
            a = tt;
            b = tt;
            c = tt;
          },
          knows.nothing_lent,
        );
        has_run = run_stays d.priority ∙ ap (λ z. s (HasRun n z)) knows.priority ∙ running.has_run;
      }

  not_this : (y : Name) (stand : Stand) → s (Standing y) ≡ IsStand stand → is_running (IsStand stand) ≡ false
      → same_name x y ≡ false
  not_this y stand e h = other_name p s x y (Runs running.context) stand is_running running.stood e refl h

  seated : (g : Seat) → is_taken now g ≡ true → IsSeated s' n node' g (named' g)
  seated Current h =
      absurd (true≢false (sym h ∙ ap (λ (o : Option ℕ). is_some o) q.current))
  seated Interrupted h =
      let taken : is_some m.interrupted ≡ true =
      sym (ap (λ (o : Option Suspended). is_some o) q.interrupted) ∙ h in
      interrupted_seated n x s s' stand_stays run_stays k.node node' (named Interrupted) (apart p c s n x k taken)
      q.interrupted (shown.processes.seated Interrupted taken)
  seated (Queued b) h =
      let taken : is_queued m b ≡ true = sym (same_queued asks side first_control now q b) ∙ h in
      let old : IsSeated s n k.node (Queued b) (named (Queued b)) = shown.processes.seated (Queued b) taken in
      queued_seated n x s s' stand_stays run_stays k.node node' b (named (Queued b))
      (not_this (named (Queued b)) old.stand old.stands (queued_not_running k.node b old.stand old.fits))
      (iptr_stays (workspace_of b) (queued_descheduled m b taken)) old
  seated (Waiting b) h = by (cases_eq b own)
    where
      by : (b ≡ own) ⊎ (b ≡ own → ⊥) → IsSeated s' n node' (Waiting b) (named' (Waiting b))
      by (inl e) =
          subst (λ y. IsSeated s' n node' (Waiting b) y) (sym (ap (λ z. named' (Waiting z)) e ∙ own_named))
          (subst (λ z. IsSeated s' n node' (Waiting z) x) (sym e) own_seated)
      by (inr e) =
          let taken : is_some (reason_of m b) ≡ true =
          ap (λ (o : Option Reason). is_some o) (sym (reason_back asks side first_control now q b e)) ∙ h in
          let old : IsSeated s n k.node (Waiting b) (named (Waiting b)) = shown.processes.seated (Waiting b) taken in
          subst (IsSeated s' n node' (Waiting b)) (sym (other_named b e))
          (waiting_seated n x s s' stand_stays run_stays k.node node' b (named (Waiting b))
          (not_this (named (Waiting b)) old.stand old.stands (waiting_not_running k.node b old.stand old.fits))
          (λ z. (z.0, reason_back asks side first_control now q b e ∙ z.1, z.2))
          (λ z. reason_back asks side first_control now q b e ∙ z)
          (iptr_stays (workspace_of b) (waits_descheduled m b taken)) old)

  abbrev HasPlace : Name → Type 0
  HasPlace y = IsGone s' n y ⊎ ((g : Seat) × (is_taken now g ≡ true) × (named' g ≡ y))

  there_now : (y : Name) → y.node ≡ n → HasPlace y
  there_now y h = by (same_name x y) refl
    where
      of : same_name x y ≡ false → IsGone s n y ⊎ ((g : Seat) × (is_taken m g ≡ true) × (named g ≡ y)) → HasPlace y
      of other (inl (inl e)) = inl (inl (stand_stays y other ∙ e))
      of other (inl (inr e)) = inl (inr (stand_stays y other ∙ e))
      of other (inr (Current, taken, e)) =
          absurd (true≢false (sym (place_itself p (Standing x)) ∙ ap (same_name x) (sym k.name ∙ e) ∙ other))
      of other (inr (Interrupted, taken, e)) =
          inr (Interrupted, ap (λ (o : Option Suspended). is_some o) q.interrupted ∙ taken, e)
      of other (inr (Queued b, taken, e)) =
          inr (Queued b, same_queued asks side first_control now q b ∙ taken, e)
      of other (inr (Waiting b, taken, e)) =
          inr (
            Waiting b,
            ap (λ (o : Option Reason). is_some o)
                (reason_back asks side first_control now q b (waits_not b taken)) ∙ taken,
            other_named b (waits_not b taken) ∙ e,
          )

      by : (b : Bool) → same_name x y ≡ b → HasPlace y
      by true e = inr (Waiting own, own_taken, own_named ∙ one_name p x y e)
      by false e = of e (shown.processes.there y h)

  -- as many live
  live_same : live now ≡ live m
  live_same =
      live_idle now q.current
      ∙ ap (λ ws. ws ++ beside now) (descheduled_more asks side first_control now q
      ∙ ap (λ z. descheduled m ++ workspace_of (z + running.level) ∷ []) same_wptr)
      ∙ append_assoc (descheduled m) (workspace_of (m.registers.wptr + running.level) ∷ []) (beside now)
      ∙ ap (λ ws. descheduled m ++ workspace_of (m.registers.wptr + running.level) ∷ ws) beside_same
      ∙ sym (live_beside m running.level running.current)
    where
      beside_same : beside now ≡ beside m
      beside_same =
          ap (λ (o : Option Suspended). map workspace_of (option_to_list (option_map (λ t. t.registers.wptr + 1) o)))
          q.interrupted

  has_flags : HasFlags s' n now.registers
  has_flags =
      record {
        error = stays (Error n) refl ∙ running.flags.error ∙ ap IsFlag (sym same_error)
            ∙ ap (λ (z : Registers). IsFlag z.error) (sym q.registers);
        halting = stays (HaltOnError n) refl ∙ running.flags.halting ∙ ap IsFlag (sym same_halting)
            ∙ ap (λ (z : Registers). IsFlag z.halt_on_error) (sym q.registers);
      }

  processes_now : ShowsProcesses s' n named' sent' node'
  processes_now =
      record {
        seated = seated;
        there = there_now;
        lent = λ y b t h e f. lent y b t h e f (same_name x y) refl;
        passed = λ j t e h. passed j t e h (cases_eq j link) side refl;
        lives = λ b. stays (Life n b) refl ∙ shown.processes.lives b
            ∙ ap (λ (ws : List ℕ). IsAmount (pos (count_at b ws))) (sym live_same);
        population = (
          shown.processes.population.0,
          stays (Population n) refl ∙ shown.processes.population.1,
          subst (λ z. z ≤ shown.processes.population.0) (ap (λ (ws : List ℕ). length ws) (sym live_same))
              shown.processes.population.2,
        );
        interrupting = subst (λ (o : Option Suspended). IfSome o (λ t. s' (HasRun n 0) ≡ IsFlag true))
            (sym q.interrupted)
            (IfSome_then m.interrupted shown.processes.interrupting (λ t e. run_stays 0 ∙ e));
        flags = λ h. has_flags;
        kept_flags = λ h. subst (λ (o : Option Suspended). IfSome o (λ t. HasFlags s' n t.registers))
            (sym q.interrupted)
            (IfSome_then m.interrupted (shown.processes.kept_flags k.kept) (λ t f. record {
              error = stays (Error n) refl ∙ f.error;
              halting = stays (HaltOnError n) refl ∙ f.halting;
            }));
      }
    where
      not_rests : (b : Context) → IsStand (Waits (forget d)) ≡ IsStand (Rests b) → ⊥
      not_rests b e = cc

      none_sent : {t : Pending} → None ≡ Some t → ⊥
      none_sent e = cc

      lent : (y : Name) (b : Context) (t : Lent) → y.node ≡ n → s' (Standing y) ≡ IsStand (Rests b)
          → b.lent ≡ Some t → (z : Bool) → same_name x y ≡ z → (t.link < 4)
          × (sent' t.link ≡ Some (record { request = record { process = y; buffer = t.buffer }; copied = true }))
      lent y b t h e f true same =
          absurd (not_rests b (sym a.waits.is ∙ ap (λ z. s' (Standing z)) (one_name p x y same) ∙ e))
      lent y b t h e f false other =
          let old = shown.processes.lent y b t h (sym (stand_stays y other) ∙ e) f in
          (old.0, still (cases_eq t.link link) side refl ∙ old.1)
        where
          still : (t.link ≡ link) ⊎ (t.link ≡ link → ⊥) → (sd : Side) → side ≡ sd → sent' t.link ≡ sent t.link
          still (inr g) sd i = sent_other t.link g
          still (inl g) Input i = sent_input i t.link
          still (inl g) Output i =
              absurd (none_sent (sym (nothing_sent i) ∙ ap sent (sym g)
              ∙ (shown.processes.lent y b t h (sym (stand_stays y other) ∙ e) f).1))

      keeps : (j : ℕ) (t : Pending) → sent j ≡ Some t → t.copied ≡ true
          → (t.request.process.node ≡ n) × (b : Context) × (s' (Standing t.request.process) ≡ IsStand (Rests b))
          × (b.lent ≡ Some (record { link = j; buffer = t.request.buffer }))
      keeps j t e h =
          let old = shown.processes.passed j t e h in (
            old.0,
            old.1,
            stand_stays t.request.process (not_this t.request.process (Rests old.1) old.2 refl) ∙ old.2,
            old.3,
          )

      passed : (j : ℕ) (t : Pending) → sent' j ≡ Some t → t.copied ≡ true → (j ≡ link) ⊎ (j ≡ link → ⊥)
          → (sd : Side) → side ≡ sd
          → (t.request.process.node ≡ n) × (b : Context) × (s' (Standing t.request.process) ≡ IsStand (Rests b))
          × (b.lent ≡ Some (record { link = j; buffer = t.request.buffer }))
      passed j t e h (inr g) sd i = keeps j t (sym (sent_other j g) ∙ e) h
      passed j t e h (inl g) Input i = keeps j t (sym (sent_input i j) ∙ e) h
      passed j t e h (inl g) Output i =
          absurd (true≢false (sym h ∙ copied_of (sym e ∙ ap sent' g ∙ sent_own i)))
        where
          copied_of : {a b : Pending} → Some a ≡ Some b → a.copied ≡ b.copied
          copied_of {a} {b} e = ap (λ (z : Pending). z.copied) (same e)
            where
              same : {a b : Pending} → Some a ≡ Some b → a ≡ b
              same e = cc

  -- so the node is shown
  pub taken_shown : ShowsNode s' n k.plan named' sent' node'
  taken_shown =
      record {
        role = shown.role;
        works = shown.works;
        runs_on = q.halted ∙ shown.runs_on;
        size = size'' p c s n x k v store1 on r same_wptr small d knows side channel buffer s' a;
        kind = q.kind ∙ shown.kind;
        store = shows_from s' n k.plan.memory seen_store
            (tells_now p c s n x k v store1 on r same_wptr small d knows side channel buffer s' a);
        marks = marks_now;
        channels = channels_kept s s' n named named' k.node.machine node'.machine (record {
          waits = λ b ch sd span e. (
            reason_more asks side first_control now q b (reason_at sd ch span) e,
            other_named b (waits_not b (ap (λ (o : Option Reason). is_some o) e)),
          );
          waited = λ b ch sd span e. (let other : b ≡ own → ⊥ =
              λ f. no_channel sd ch span (sym reason_own ∙ ap (reason_of now) (sym f) ∙ e) in (
                sym (reason_back asks side first_control now q b other) ∙ e,
                other_named b other,
              ));
          engaged_to = λ j e. ap (λ (z : Value). (word_in z).used) (unfree_stays_here j (engaged_not_free e)) ∙ e;
          engaged_back = λ j e. engaged_back j e
              (used_now p c s n x k v store1 on r same_wptr small d knows side channel buffer s' a j);
          halves = λ b sd. stays (Half n b sd) refl;
          size = size_now;
          words = λ b h e. lasting_word b h (ap is_lasting e);
        }) shown.channels;
        links = link_shown;
        processes = processes_now;
        choices = choices_stay s s' n m.links now.links store seen_store inputs_kept (λ y h. alternatives y)
            (λ y h e. quiet_alike p s s' n x stand_stays quiet_now y e) (λ y h. stays (Ports y) refl)
            (λ b sd. stays (Half n b sd) refl) unsent_still
            (λ j e. unfree_stays_here j (lasting_not_free e)) size_now
            lasting_word shown.choices;
      }
    where
      quiet_now : is_quiet (stand_in (s' (Standing x))) ≡ true
      quiet_now = ap (λ (z : Value). is_quiet (stand_in z)) a.waits.is ∙ ap is_none (same_choice ∙ no_alternative)

  elsewhere : (g : Place) → node_at g ≢ n → s' g ≡ s g
  elsewhere g h = stays g (other g h)
    where
      other : (g : Place) → node_at g ≢ n → may_take n x g ≡ false
      other (WordAt i j) h = ne_eqb n i (λ e. h (sym e))
      other (Sending i j) h = ne_eqb n i (λ e. h (sym e))
      other (LinkHalf e sd) h = ne_eqb n e.node (λ f. h (sym f))
      other (Standing y) h = rw (ne_eqb x.node y.node (λ e. h (sym e ∙ running.home))) refl
      other _ h = refl

  -- it keeps what it offers, and notices nothing
  keeps_offers : KeepsOffers s s' n k.node node'
  keeps_offers =
      record { offers = λ j h. offers j h (cases_eq j link) side refl; notices = λ j h. notices j h (input_cases j) }
    where
      Sends : State → ℕ → Type 0
      Sends t j = is_passable (LinkHalf (end_at n j) Output) (t (LinkHalf (end_at n j) Output)) ≡ true

      offers : (j : ℕ) → Sends s j → (j ≡ link) ⊎ (j ≡ link → ⊥) → (sd : Side) → side ≡ sd → Sends s' j
      offers j h (inr e) sd f = ap (is_passable (LinkHalf (end_at n j) Output)) (other_link_half j Output e) ∙ h
      offers j h (inl e) Input f =
          subst (Sends s') (sym e)
          (ap (is_passable (LinkHalf (end_at n link) Output)) (side_apart Input Output refl f) ∙ subst (Sends s) e h)
      offers j h (inl e) Output f =
          subst (Sends s') (sym e)
          (ap (is_passable (LinkHalf (end_at n link) Output)) (ap (λ z. s' (LinkHalf (end_at n link) z)) (sym f)
          ∙ own_half))

      notices : (j : ℕ) → (link_end now j).noticed ≡ true → IsKeptInput j ⊎ IsOwnInput j
          → (link_end m j).noticed ≡ true
      notices j h (inl e) = sym e.noticed ∙ h
      notices j h (inr e) = absurd (true≢false (sym h ∙ ap (λ (z : LinkEnd). z.noticed) (own_end j e)))

  -- and the step of the node leads there
  pub take_leads : step k.node.machine ≡ Ok (
    made p c s n x k v store1 on r same_wptr small d knows side channel buffer s' a,
    ran_link side (link_of side channel),
  )
      → LeadsTo p c n s'
  take_leads stepped =
      record {
        configuration = put_node n (record k.node {
          machine = hidden (made p c s n x k v store1 on r same_wptr small d knows side channel buffer s' a);
        }) c;
        local = record {
          node = k.node;
          machine = made p c s n x k v store1 on r same_wptr small d knows side channel buffer s' a;
          ran = ran_link side (link_of side channel);
          here = k.here;
          works = shown.works;
          steps = stepped;
          is_step = is_step side;
          after = refl;
        };
        shows = net_shown p c s s' k.shows n k.plan k.planned k.node k.here node' named' sent' taken_shown elsewhere
            (own_notices p c s s' n k.plan k.node node' k.planned k.here k.shows.noticed keeps_offers elsewhere);
      }
    where
      is_step : (sd : Side) → IsStep (ran_link sd (link_of side channel))
      is_step Input = ((λ e. cc), (λ e. cc))
      is_step Output = ((λ e. cc), (λ e. cc))
