-- A notice wakes a process that waits for its alternative: what its node shows after the step of the wire.
use Rattle.std.proofs.Common.{◌≡◌, ◌≢◌, ℕ, ◌+◌, ◌*◌, ◌<◌, ◌≤◌, ◌/◌, ◌%◌, refl, sym, ap, subst, ◌∙◌, Bool, true, false}
use Rattle.std.proofs.Common.{true≢false, List, length, get_or, Contains, Option, Some, None, ◌⊎◌, inl, inr, arith}
use Rattle.std.specs.Prelude.{IfSome, ◌&&◌, option_map, slice_set, is_some}
use Rattle.std.proofs.lemmas.Bool.{cases_eq, eq-eqb, ne_eqb}
use Rattle.std.proofs.lemmas.List.Elements.{All-contains}
use Rattle.std.proofs.lemmas.Option.{IfSome_then}
use Rattle.tword.specs.declared.span.Span.{Span}
use Rattle.tword.specs.Words.{most_neg, word_below}
use Rattle.tword.specs.Stores.{Store, place, word_at, with_word}
use Rattle.tword.specs.Claims.{is_input}
use Rattle.tword.specs.Touches.{byte_span, word_place_break}
use Rattle.tproc.specs.declared.channels.Side.{Side}
use Rattle.tproc.specs.declared.channels.Side.TheVariants.{Input, Output}
use Rattle.tproc.specs.declared.waiter.LinkEnd.{LinkEnd}
use Rattle.tproc.specs.declared.waiter.Reason.{Reason}
use Rattle.tproc.specs.declared.waiter.Reason.TheVariants as reasons
use Rattle.tproc.specs.Channels.{ready}
use Rattle.tproc.specs.Hidden.{hidden}
use Rattle.tproc.specs.LinkChannels.{link_end}
use Rattle.tproc.specs.Links.{notice}
use Rattle.tproc.specs.Machine.{Control, Machine, claims_of, descheduled, workspace_of, priority_of}
use Rattle.tproc.specs.Placement.{IsPlaced, IsBuffer, IsWorkspace, IsWord, WaitsFor}
use Rattle.tproc.specs.ProcessStatus.{reason_of}
use Rattle.tproc.specs.Queues.{iptr_word, state_word, last_of}
use Rattle.tproc.specs.SavedWords.{WordStands}
use Rattle.tproc.proofs.LinkClaims.{input_claim, inputs_of, noticing, set_same}
use Rattle.tproc.proofs.SavedWords.{saved_words_stand}
use Rattle.tproc.proofs.Waiters.{found_waiter}
use Rattle.tproc.proofs.WordsApart.{LiesWord}
use Rattle.tplan.specs.declared.plan.NodePlan.{NodePlan}
use Rattle.tplan.specs.declared.plan.Plan.{Plan}
use Rattle.tplan.specs.Wires.{end_at, same_end}
use Rattle.tnet.specs.Rendezvous.{Node}
use Rattle.treduction.proofs.LinkActions.{last_before}
use Rattle.tprocesses.specs.Places.{Place, Name, WordAt, Sending, Standing, Ports, Half, LinkHalf, Unfinished, HasRun}
use Rattle.tprocesses.specs.Places.{same_name, same_place}
use Rattle.tprocesses.specs.Values.{Value, Use, Saved, Receiving, Engaged, Choosing, Awaiting, Context}
use Rattle.tprocesses.specs.Values.{Rests, Chooses, Chosen, Awaited, Fired, IsStand, IsLink}
use Rattle.tprocesses.specs.Values.{stand_in, link_in, word_in}
use Rattle.tprocesses.specs.Choosing.{with_choice}
use Rattle.tprocesses.specs.Touching.{word_number}
use Rattle.tprocesses.specs.Machine.{site_of, awaits_successor}
use Rattle.tseen.specs.Seats.{Seat, Waiting}
use Rattle.tseen.specs.Outputs.{Pending}
use Rattle.tseen.specs.Words.{AreMarked, AreSavedWords, ShowsWord, use_at, cells_at}
use Rattle.tseen.specs.Choices.{Alternative, alternative, alternative_of, alternative_at, is_quiet, descriptor_at}
use Rattle.tseen.specs.Choices.{input_at, enabler_on, link_enabler, ShowsChoices, HasChoice}
use Rattle.tseen.specs.Halves.{reason_at}
use Rattle.tseen.specs.Shown.{ShowsNode}
use Rattle.tseen.specs.Steps.{IsSteady}
use Rattle.tseen.proofs.Adding.{last_descheduled}
use Rattle.tseen.proofs.After.{State}
use Rattle.tseen.proofs.Built.{lies_below}
use Rattle.tseen.proofs.Cells.{use_of, Tells, tells_from, shows_from}
use Rattle.tseen.proofs.ChannelsKept.{channels_kept}
use Rattle.tseen.proofs.ChoicePlain.{alternative_context}
use Rattle.tseen.proofs.Choices.{is_lasting, lasting_not_saved}
use Rattle.tseen.proofs.Counted.{waits_descheduled}
use Rattle.tseen.proofs.Finished.{is_stand_of, one_name, place_itself}
use Rattle.tseen.proofs.Frames.{node_at}
use Rattle.tseen.proofs.LinkEnabler.{IsChoosing, has, other, lies_state, workspace, state_not}
use Rattle.tseen.proofs.LinkEnabler.{choosing_saved, choosing_status}
use Rattle.tseen.proofs.NoticedLinks.{with_notice, input_stays, other_end, links_noticed}
use Rattle.tseen.proofs.NoticeWakes.{woken_machine, notice_wakes}
use Rattle.tseen.proofs.Others.{other_name}
use Rattle.tseen.proofs.QueueLinks.{IsLinked, linked_then, linked_tells, word_alike}
use Rattle.tseen.proofs.ReadiedChoices.{choices_readied}
use Rattle.tseen.proofs.ReadiedWord.{IsReadied, word_readied, other_stays, readied_tells}
use Rattle.tseen.proofs.Receives.{input_receives}
use Rattle.tseen.proofs.Receiving.{hidden_by, none_where_hidden}
use Rattle.tseen.proofs.Rejoined.{joins, reason_before, reason_now, no_reason, same_queue, still_there}
use Rattle.tseen.proofs.Staying.{marks_from, saved_words_stay}
use Rattle.tseen.proofs.Woken.{may_change, IsAwake, control', node', named', processes_awake}
use Rattle.tseen.proofs.Writing.{word_lies}

-- the input of a link made a process go on
pub record HasFired (n l : ℕ) (y : Name) (d : Context) (s t : State) : Type 0 where
  pub stands : t (Standing y) ≡ IsStand (Chosen (with_choice true d))
  pub input : t (LinkHalf (end_at n l) Input) ≡ IsLink (Fired y)
  pub rest : (q : Place) → is_stand_of y q ≡ false → same_place (LinkHalf (end_at n l) Input) q ≡ false → t q ≡ s q

module _ (p : Plan) (s : State) (n : ℕ) (plan : NodePlan) (named : Seat → Name) (sent : ℕ → Option Pending)
    (node : Node) (shown : ShowsNode s n plan named sent node) (steady : IsSteady node) (l : ℕ) (small : l < 4)
    (no_input : (link_end node.machine.control l).input ≡ None) (y : Name) (home : y.node ≡ n) (theirs : Alternative)
    (theirs_is : alternative_at s n y ≡ Some theirs) (awaits : input_at s n l ≡ Awaited y)
    (remembers : (link_end node.machine.control l).remembered ≡ Some (theirs.wptr + theirs.priority))
    (k : IsChoosing s n plan named sent node shown steady y home theirs theirs_is) where
  abbrev m : Control
  m = node.machine.control

  abbrev store : Store
  store = node.machine.store

  abbrev placed : IsPlaced node.machine
  placed = steady.placed

  abbrev pub process : ℕ
  process = theirs.wptr + theirs.priority

  abbrev state : ℕ
  state = word_below (workspace_of (theirs.wptr + theirs.priority)) state_word

  pub waits : WaitsFor m (theirs.wptr + theirs.priority) reasons.Chooses
  waits = found_waiter m.waiting (theirs.wptr + theirs.priority) reasons.Chooses k.reason

  abbrev ls : List LinkEnd
  ls = slice_set m.links l (with_notice (link_end m l))

  abbrev store1 : Store
  store1 = with_word store state ready

  abbrev pub made : Machine
  made = woken_machine l node.machine (theirs.wptr + theirs.priority)

  abbrev store' : Store
  store' = made.store

  pub made_is : notice l node.machine ≡ made
  made_is =
      notice_wakes l process node.machine remembers
      (choosing_status s n plan named sent node shown steady y home theirs theirs_is k)
      (choosing_saved s n plan named sent node shown steady y home theirs theirs_is k)

  same_state : state ≡ word_below theirs.wptr state_word
  same_state =
      ap (λ z. word_below z state_word) (workspace s n plan named sent node shown steady y home theirs theirs_is)

  choice : HasChoice s n m.links store y theirs
  choice = has s n plan named sent node shown steady y home theirs theirs_is

  lies_there : LiesWord (length store) state
  lies_there =
      subst (LiesWord (length store)) (sym same_state)
      (lies_state s n plan named sent node shown steady y home theirs theirs_is)

  whole : plan.memory % 4 ≡ 0
  whole = subst (λ z. z % 4 ≡ 0) shown.size steady.sized.size.2

  readied : IsReadied state store store1
  readied = word_readied store state lies_there

  -- the word is in use for the alternative alone
  not_used : (u : Use) → (Choosing ≡ u → ⊥) → (Awaiting ≡ u → ⊥) → use_of s n (word_number state) ≡ u → ⊥
  not_used u a b e =
      state_not s n plan named sent node shown steady y home theirs theirs_is u a b
      (ap (λ z. use_of s n (word_number z)) (sym same_state) ∙ e)

  -- the queue that it joins
  last_in : (v : ℕ) → last_before process (noticing l node.machine).control ≡ Some v → Contains (descheduled m) v
  last_in v e =
      last_descheduled m (priority_of process) v
      (ap last_of (sym (same_queue m process reasons.Chooses waits placed.claimed.distinct ls (priority_of process)))
      ∙ e)

  abbrev saved_of : (v : ℕ) → Contains (descheduled m) v → AreSavedWords s n v
  saved_of v h = All-contains (AreSavedWords s n) (descheduled m) v shown.marks.saved h

  linked_store : IsLinked s n store1 store'
  linked_store =
      linked_then s n store1 (claims_of m) (workspace_of process)
      (last_before process (noticing l node.machine).control) (λ v e. (
        saved_of v (last_in v e),
        subst (λ z. LiesWord z (word_below v 2)) (sym readied.size)
            (lies_below (length store) v 2 placed.claimed.size
            (All-contains (IsWorkspace (length store)) (descheduled m) v placed.claimed.saved (last_in v e))
            (All-contains IsWord (descheduled m) v placed.workspaces (last_in v e)) (omega arith, omega arith)),
      ))

  size' : length store' ≡ length store
  size' = linked_store.size ∙ readied.size

  tells' : Tells s n plan.memory store'
  tells' =
      linked_tells s n plan.memory store1 store' linked_store
      (readied_tells state store store1 readied s n plan.memory
      (ap (λ z. cells_at s n z) same_state ∙ choice.unseen)
      (tells_from s n plan.memory store shown.size whole shown.store))

  iptrs : (a : ℕ) → Contains (descheduled m) a
      → word_at store' (word_below a iptr_word) ≡ word_at store (word_below a iptr_word)
  iptrs a h =
      subst (λ (z : Machine). WordStands iptr_word a node.machine z) made_is
      (All-contains (λ v. WordStands iptr_word v node.machine (notice l node.machine)) (descheduled m) a
      ((saved_words_stand node.machine placed).notices l).iptrs h)

  lies_of : (d : ℕ) → word_place_break (length store) d ≡ None
      → (place d ≡ 4 * word_number d) × LiesWord (length store) d
  lies_of d h =
      let at : (place d ≡ 4 * word_number d) × (most_neg ≤ d) × (4 * word_number d + 4 ≤ plan.memory) =
      word_lies (site_of n plan) whole d (subst (λ z. word_place_break z d ≡ None) shown.size h) in (
        at.0,
        record {
          above = at.1;
          within = omega (arith, at.0, at.2, shown.size);
          aligned = omega (arith, at.0, at.1);
        },
      )

  -- a word in use as a channel or for an alternative stays, if it is not that of the state
  lasting_word : (d : ℕ) → word_place_break (length store) d ≡ None → is_lasting (use_at s n d) ≡ true
      → word_number d ≢ word_number state → word_at store' d ≡ word_at store d
  lasting_word d h e other =
      let at = lies_of d h in
      word_alike store1 store' d linked_store.size (subst (λ z. LiesWord z d) (sym readied.size) at.1) (λ j b.
      linked_store.only (place d + j) (λ f.
      lasting_not_saved e (ap (use_of s n) (sym (omega (arith, at.0, b))) ∙ f)))
      ∙ other_stays state store store1 readied d at.1 other

  ready_there : word_at store' state ≡ ready
  ready_there =
      word_alike store1 store' state linked_store.size (subst (λ z. LiesWord z state) (sym readied.size) lies_there)
      (λ j b. linked_store.only (place state + j) (λ f.
      not_used Saved (λ g. not_saved g) (λ g. not_saved_either g)
      (ap (use_of s n) (sym (omega (arith, b, lies_there.above, lies_there.aligned))) ∙ f)))
      ∙ readied.is
    where
      not_saved : Choosing ≡ Saved → ⊥
      not_saved g = cc

      not_saved_either : Awaiting ≡ Saved → ⊥
      not_saved_either g = cc

  -- a byte of a pending input stays
  received_byte : (i : ℕ) → use_of s n (i / 4) ≡ Receiving → get_or store' i None ≡ get_or store i None
  received_byte i e =
      linked_store.only i (λ f. not_saved (sym e ∙ f))
      ∙ readied.only i (λ f. not_used Receiving (λ g. not_choosing g) (λ g. not_awaiting g)
      (ap (use_of s n) (sym f) ∙ e))
    where
      not_saved : Receiving ≡ Saved → ⊥
      not_saved g = cc

      not_choosing : Choosing ≡ Receiving → ⊥
      not_choosing g = cc

      not_awaiting : Awaiting ≡ Receiving → ⊥
      not_awaiting g = cc

  module _ (t : State) (g : HasFired n l y k.context s t) where
    abbrev x : Name
    x = named (Waiting process)

    abbrev pub fired_node : Node
    fired_node = node' p s t n plan named sent node shown placed process reasons.Chooses waits ls store' node.copied

    abbrev now : Control
    now = control' p s t n plan named sent node shown placed process reasons.Chooses waits ls store' node.copied

    abbrev pub fired_names : Seat → Name
    fired_names = named' p s t n plan named sent node shown placed process reasons.Chooses waits ls store' node.copied

    stays : (q : Place) → is_stand_of y q ≡ false → same_place (LinkHalf (end_at n l) Input) q ≡ false → t q ≡ s q
    stays = g.rest

    stays_else : (q : Place) → may_change n x q ≡ false → t q ≡ s q
    stays_else q h = g.rest q (stand q h) (input q h)
      where
        stand : (q : Place) → may_change n x q ≡ false → is_stand_of y q ≡ false
        stand (Standing z) h = ap (λ a. same_name a z) (sym k.name) ∙ h
        stand _ h = refl

        input : (q : Place) → may_change n x q ≡ false → same_place (LinkHalf (end_at n l) Input) q ≡ false
        input (LinkHalf e side) h = rw h refl
        input _ h = refl

    stand_stays : (z : Name) → same_name y z ≡ false → t (Standing z) ≡ s (Standing z)
    stand_stays z h = stays (Standing z) h refl

    same_word : (j : ℕ) → t (WordAt n j) ≡ s (WordAt n j)
    same_word j = stays (WordAt n j) refl refl

    uses : (j : ℕ) → use_of t n j ≡ use_of s n j
    uses j = ap (λ (v : Value). (word_in v).used) (same_word j)

    -- the processes
    rests_still : (z : Name) (c : Context) → s (Standing z) ≡ IsStand (Rests c) → t (Standing z) ≡ IsStand (Rests c)
    rests_still z c e =
        stand_stays z (other_name p s y z (Chooses k.context) (Rests c) is_choosing k.stood e refl refl) ∙ e
      where
        is_choosing : Value → Bool
        is_choosing (IsStand (Chooses d)) = true
        is_choosing _ = false

    awake : IsAwake p s t n plan named sent node shown placed process reasons.Chooses waits ls store' node.copied
        (Chosen (with_choice true k.context))
    awake =
        record {
          stands = ap (λ z. t (Standing z)) k.name ∙ g.stands;
          fits = (
            record {
              priority = k.fits.priority;
              wptr = k.fits.wptr;
              iptr = k.fits.iptr ∙ sym (iptrs (workspace_of process) there);
              a = k.fits.a;
              b = k.fits.b;
              c = k.fits.c;
            },
            k.nothing_lent,
          );
          has_run = stays (HasRun n k.context.priority) refl refl ∙ k.has_run;
          stays = stays_else;
          iptrs = iptrs;
          passes = λ b other h. (
            h.0,
            reason_now m process reasons.Chooses waits placed.claimed.distinct ls b other ∙ h.1,
            h.2,
          );
          lent_sent = λ c t e. absurd (not_resting e);
          passed = λ j q e f. (let old = shown.processes.passed j q e f in
              (old.0, old.1, rests_still q.request.process old.1 old.2, old.3));
        }
      where
        not_resting : {c : Context} → Chosen (with_choice true k.context) ≡ Rests c → ⊥
        not_resting e = cc

        there : Contains (descheduled m) (workspace_of process)
        there =
            waits_descheduled m process
            (subst (λ (o : Option Reason). is_some o ≡ true) (sym k.reason) refl)

    -- the links
    links_now : now.links ≡ ls
    links_now = (joins m process reasons.Chooses waits placed.claimed.distinct ls).links

    within : l < length m.links
    within = subst (λ z. l < z) (sym placed.claimed.links) small

    input_half : (j : ℕ) → (j ≡ l → ⊥) → t (LinkHalf (end_at n j) Input) ≡ s (LinkHalf (end_at n j) Input)
    input_half j h = stays (LinkHalf (end_at n j) Input) refl (rw (eq-eqb n n refl, ne_eqb l j (λ e. h (sym e))) refl)

    output_half : (j : ℕ) → t (LinkHalf (end_at n j) Output) ≡ s (LinkHalf (end_at n j) Output)
    output_half j = stays (LinkHalf (end_at n j) Output) refl (by (same_end (end_at n l) (end_at n j)))
      where
        by : (b : Bool) → (b && false) ≡ false
        by true = refl
        by false = refl

    fired_now : input_at t n l ≡ Fired y
    fired_now = ap link_in g.input

    inputs_now : (j : ℕ) → (link_end now j).input ≡ (link_end m j).input
    inputs_now = input_stays s t n l named fired_names sent node fired_node links_now within

    -- its alternative
    before : alternative_at s n y ≡ alternative false true k.context
    before = ap (λ (v : Value). alternative_of (stand_in v)) k.stood

    abbrev after : Alternative
    after =
        record {
          skips = true;
          wptr = k.context.wptr;
          priority = k.context.priority;
          runs = false;
          waits = false;
        }

    alternative_now : alternative_at t n y ≡ Some after
    alternative_now = ap (λ (v : Value). alternative_of (stand_in v)) g.stands

    same : (theirs.wptr ≡ k.context.wptr) × (theirs.priority ≡ k.context.priority) × (theirs.runs ≡ false)
        × (theirs.waits ≡ true)
    same = alternative_context false true k.context theirs (sym before ∙ theirs_is)

    descriptor_stays : (z : Name) → (b : Bool) → same_name y z ≡ b → descriptor_at t n z ≡ descriptor_at s n z
    descriptor_stays z false e =
        ap (λ (v : Value). option_map (λ (a : Alternative). a.wptr + a.priority) (alternative_of (stand_in v)))
        (stand_stays z e)
    descriptor_stays z true e =
        subst (λ w. descriptor_at t n w ≡ descriptor_at s n w) (one_name p y z e)
        (ap (option_map (λ (a : Alternative). a.wptr + a.priority)) alternative_now
        ∙ ap (λ w. Some (w + k.context.priority)) (sym same.0) ∙ ap (λ q. Some (theirs.wptr + q)) (sym same.1)
        ∙ sym (ap (option_map (λ (a : Alternative). a.wptr + a.priority)) theirs_is))

    enablers_stay : (j : ℕ) → (j ≡ l) ⊎ (j ≡ l → ⊥) → enabler_on t n j ≡ enabler_on s n j
    enablers_stay j (inl e) =
        subst (λ i. enabler_on t n i ≡ enabler_on s n i) (sym e)
        (ap link_enabler fired_now ∙ sym (ap link_enabler awaits))
    enablers_stay j (inr e) = ap (λ (v : Value). link_enabler (link_in v)) (input_half j e)

    some_name : {a b : Name} → Some a ≡ Some b → a ≡ b
    some_name e = cc

    -- another process has enabled another link
    not_theirs : (z : Name) → same_name y z ≡ false → enabler_on s n l ≡ Some z → ⊥
    not_theirs z e f =
        true≢false (sym (place_itself p (Standing y)) ∙ ap (same_name y) (some_name (sym (ap link_enabler awaits) ∙ f))
        ∙ e)

    noticed_stays : (j : ℕ) (z : Name) → same_name y z ≡ false → enabler_on s n j ≡ Some z → (j ≡ l) ⊎ (j ≡ l → ⊥)
        → (link_end now j).noticed ≡ (link_end m j).noticed
    noticed_stays j z e f (inl h) = absurd (not_theirs z e (ap (λ i. enabler_on s n i) (sym h) ∙ f))
    noticed_stays j z e f (inr h) =
        ap (λ (v : LinkEnd). v.noticed) (other_end s t n l named fired_names sent node fired_node links_now within j h)

    awaited_stays : (j : ℕ) (z : Name) → same_name y z ≡ false → input_at s n j ≡ Awaited z → (j ≡ l) ⊎ (j ≡ l → ⊥)
        → input_at t n j ≡ Awaited z
    awaited_stays j z e f (inl h) =
        absurd (not_theirs z e (ap (λ i. enabler_on s n i) (sym h) ∙ ap link_enabler f))
    awaited_stays j z e f (inr h) = ap link_in (input_half j h) ∙ f

    choices_now : ShowsChoices t n now.links store'
    choices_now =
        choices_readied p (site_of n plan) whole s t m.links now.links store store' shown.size y theirs after
        (record {
          home = home;
          before = theirs_is;
          now = alternative_now;
          wptr = sym same.0;
          priority = sym same.1;
          runs = sym same.2;
          awake = refl;
          stands = stand_stays;
          quiet = ap (λ (v : Value). is_quiet (stand_in v)) g.stands;
          ports = λ z. stays (Ports z) refl refl;
          words = same_word;
          sendings = λ j. stays (Sending n j) refl refl;
          inputs = λ d. stays (Half n d Input) refl refl;
          outputs = λ d. stays (Half n d Output) refl refl;
          enablers = λ j. enablers_stay j (cases_eq j l);
          awaited = λ j z e f. awaited_stays j z e f (cases_eq j l);
          noticed = λ j z e f. noticed_stays j z e f (cases_eq j l);
          same_size = size';
          others = λ d h e f. lasting_word d h e (λ i. f (i ∙ ap word_number same_state));
          is = ap (word_at store') (sym same_state) ∙ ready_there;
          due = inl refl;
        }) shown.choices

    marks_now : AreMarked t n sent now
    marks_now =
        marks_from s t n sent sent m now
        (λ v h. saved_words_stay s t n v (λ j e. same_word j)
        (saved_of v (still_there m process reasons.Chooses waits placed.claimed.distinct ls v h)))
        inputs_now (λ j e. uses j ∙ e) (λ j. stays (Sending n j) refl refl ∙ shown.marks.outputs j)
        (λ j. ap awaits_successor (uses j) ∙ shown.marks.no_successor j) shown.marks

    no_channel : (side : Side) (channel : ℕ) (buffer : Span)
        → Some reasons.Chooses ≡ Some (reason_at side channel buffer) → ⊥
    no_channel Input channel buffer e = cc
    no_channel Output channel buffer e = cc

    nobody : {X : Type 0} {z : X} → None ≡ Some z → ⊥
    nobody e = cc

    not_engaged : (d : ℕ) → use_at s n d ≡ Engaged → word_number d ≢ word_number state
    not_engaged d e f =
        not_used Engaged (λ h. not_choosing h) (λ h. not_awaiting h) (ap (use_of s n) (sym f) ∙ e)
      where
        not_choosing : Choosing ≡ Engaged → ⊥
        not_choosing h = cc

        not_awaiting : Awaiting ≡ Engaged → ⊥
        not_awaiting h = cc

    -- so the node is shown
    pub fired_shown : ShowsNode t n plan fired_names sent fired_node
    fired_shown =
        record {
          role = shown.role;
          works = shown.works;
          runs_on = (joins m process reasons.Chooses waits placed.claimed.distinct ls).halted ∙ shown.runs_on;
          size = size' ∙ shown.size;
          kind = (joins m process reasons.Chooses waits placed.claimed.distinct ls).kind ∙ shown.kind;
          store = λ j h. subst (ShowsWord store' j) (sym (same_word j)) (shows_from s n plan.memory store' tells' j h);
          marks = marks_now;
          channels = channels_kept s t n named fired_names node.machine fired_node.machine (record {
            waits = λ w channel side buffer e. (
              reason_now m process reasons.Chooses waits placed.claimed.distinct ls w (λ f.
                  no_channel side channel buffer
                  (sym (reason_before m process reasons.Chooses waits placed.claimed.distinct ls)
                  ∙ ap (reason_of m) (sym f) ∙ e))
                  ∙ e,
              refl,
            );
            waited = λ w channel side buffer e. (
              sym (reason_now m process reasons.Chooses waits placed.claimed.distinct ls w (λ f. nobody
                  (sym (no_reason m process reasons.Chooses waits placed.claimed.distinct ls)
                  ∙ ap (reason_of now) (sym f) ∙ e)))
                  ∙ e,
              refl,
            );
            engaged_to = λ j e. uses j ∙ e;
            engaged_back = λ j e. sym (uses j) ∙ e;
            halves = λ d side. stays (Half n d side) refl refl;
            size = size';
            words = λ d h e. lasting_word d h (ap is_lasting e) (not_engaged d e);
          }) shown.channels;
          links = λ j b. links_noticed s t n l named fired_names sent node fired_node links_now within (λ w. refl)
              (λ i. refl) no_input (λ i. output_half i)
              (λ i. stays (Unfinished (end_at n i)) refl refl) input_half (Fired y, g.input, refl)
              (λ i d z e. descriptor_stays z (same_name y z) refl) j b (shown.links j b);
          processes = processes_awake p s t n plan named sent node shown placed process reasons.Chooses waits ls store'
              node.copied (Chosen (with_choice true k.context)) awake;
          choices = choices_now;
        }

    -- nothing else is hidden
    buffers : (j : ℕ) → IfSome (link_end m j).input (IsBuffer (length store))
    buffers j = IfSome_then (link_end m j).input (placed.claimed.inputs j) (λ o h. h.1)

    pub fired_is : hidden (notice l node.machine) ≡ fired_node.machine
    fired_is =
        ap hidden made_is
        ∙ ap (λ (z : Store). record { control = now; store = z })
        (hidden_by now store' (λ i h.
        let before : is_input (claims_of m) (byte_span (most_neg + i)) ≡ true =
        ap (λ (xs : List (Option Span)). is_input (record (claims_of m) { inputs = xs }) (byte_span (most_neg + i)))
        (sym (ap inputs_of links_now ∙ set_same input_claim m.links l (with_notice (link_end m l)) refl)) ∙ h in
        received_byte i (input_receives s n sent m (length store) buffers shown.marks i before)
        ∙ none_where_hidden m store (ap (λ (z : Machine). z.store) steady.hides) i before))

    -- other nodes stay
    pub fired_elsewhere : (q : Place) → node_at q ≢ n → t q ≡ s q
    fired_elsewhere q h = stays q (stand q h) (input q h)
      where
        stand : (q : Place) → node_at q ≢ n → is_stand_of y q ≡ false
        stand (Standing z) h = rw (ne_eqb y.node z.node (λ e. h (sym e ∙ home))) refl
        stand _ h = refl

        input : (q : Place) → node_at q ≢ n → same_place (LinkHalf (end_at n l) Input) q ≡ false
        input (LinkHalf e side) h = rw (ne_eqb n e.node (λ f. h (sym f))) refl
        input _ h = refl
