-- A node sends: the message of an output goes over, and its process rests, with its output still pending.
use Rattle.tprocesses.specs.Values.{amount_in}
use Rattle.tseen.proofs.Choices.{stands_alike, quiet_alike, choices_stay}
use Rattle.tprocesses.specs.Places.{Ports}
use Rattle.tseen.specs.Choices.{alternative_of, alternative_at, is_quiet}
use Rattle.std.proofs.Common.{◌≡◌, ◌≢◌, ℕ, ◌+◌, ◌<◌, ◌%◌, refl, sym, ap, subst, ◌∙◌, Bool, true, false, true≢false}
use Rattle.std.proofs.Common.{length, get_or, cond, Option, Some, None, arith, ◌⊎◌, inl, inr, pos}
use Rattle.std.specs.Prelude.{◌==◌, ◌&&◌, IfSome, is_some}
use Rattle.std.proofs.lemmas.Bool.{eq-eqb, ne_eqb, cases_eq}
use Rattle.std.proofs.lemmas.List.{get_or-set_same, get_or-set_other}
use Rattle.std.proofs.lemmas.List.Elements.{All-contains}
use Rattle.std.proofs.lemmas.Option.{IfSome_then}
use Rattle.tcpu.specs.declared.registers.Registers.{Registers}
use Rattle.tword.specs.Stores.{Store, place, cells}
use Rattle.tword.specs.Touches.{Reads}
use Rattle.tplan.specs.declared.plan.End.{End}
use Rattle.tplan.specs.declared.plan.NodePlan.{NodePlan}
use Rattle.tplan.specs.declared.plan.Plan.{Plan}
use Rattle.tproc.specs.declared.waiter.Reason.TheVariants as waiting
use Rattle.tproc.specs.declared.offer.Offer.{Offer}
use Rattle.tproc.specs.declared.channels.Side.TheVariants.{Input, Output}
use Rattle.tproc.specs.declared.waiter.Reason.{Reason}
use Rattle.tproc.specs.declared.waiter.Reason.TheVariants.{LinkOutput}
use Rattle.tproc.specs.Machine.{Control, descheduled, buffer_of}
use Rattle.tproc.specs.LinkChannels.{link_end}
use Rattle.tproc.specs.Placement.{IsBuffer, WaitsFor}
use Rattle.tproc.specs.ProcessStatus.{reason_of}
use Rattle.tproc.proofs.Handing.{Lies, buffer_lies}
use Rattle.tnet.specs.Rendezvous.{Node, marked, was_copied}
use Rattle.tplan.specs.Wires.{end_at, same_end}
use Rattle.tplan.proofs.Ends.{same_end-true}
use Rattle.tprocesses.specs.Places.{Place, Name, WordAt, Sending, Standing, Half, LinkHalf, Error, HaltOnError, Life}
use Rattle.tprocesses.specs.Places.{Population, HasRun, FlagChanged, Unfinished, Messages, same_name}
use Rattle.tprocesses.specs.Values.{Chosen, Listens, Chooses, Value, Context, Lent, Stand, Absent, Rests, Runs, Waits}
use Rattle.tprocesses.specs.Values.{Ended}
use Rattle.tprocesses.specs.Values.{Empty, Offered}
use Rattle.tprocesses.specs.Values.{IsStand, IsLink, IsFlag, IsAmount, link_in, stand_in, word_in}
use Rattle.tprocesses.specs.Changes.{Put}
use Rattle.tprocesses.specs.Touching.{Site, touch, part_of}
use Rattle.tprocesses.specs.Standing.{wakes, ready}
use Rattle.tprocesses.specs.LinkMessages.{node_sends, sent_by}
use Rattle.tprocesses.specs.Machine.{Role, Processor, Source, Sink, Nothing, offer_place, site_of, awaits_successor}
use Rattle.tseen.specs.Known.{KnowsCells, HasSaved}
use Rattle.tseen.specs.Seats.{Seat, Current, Interrupted, Queued, Waiting, is_taken}
use Rattle.tseen.specs.Outputs.{Pending, half_with, has_passed, is_sending, sendings}
use Rattle.tseen.specs.Words.{AreSavedWords, ShowsWord}
use Rattle.tseen.specs.Halves.{ShowsLink, IsInput, request_of}
use Rattle.tseen.specs.Processes.{Fits, IsSeated, IsGone, HasFlags, KeepsFlags, HasPassed, ShowsProcesses, context_in}
use Rattle.tseen.specs.Shown.{ShowsNode}
use Rattle.tseen.specs.Steps.{IsSteady}
use Rattle.tseen.proofs.After.{State, After, changed, after_bind}
use Rattle.tseen.proofs.Cells.{use_of, cell, Knows, Tells, tells_from, knows-from, range-at, range-length}
use Rattle.tseen.proofs.Finished.{is_stand_of, StandsNow, stands_then, one_name}
use Rattle.tseen.proofs.Frames.{node_at}
use Rattle.tseen.proofs.InputChannels.{descriptors_stay, remembered_stays, inputs_stay}
use Rattle.tseen.proofs.Nets.{chosen}
use Rattle.tseen.proofs.Others.{other_name}
use Rattle.tseen.proofs.Rejoined.{reason_before, is_new}
use Rattle.tseen.proofs.Staying.{saved_words_stay, marks_from, channels_stay}
use Rattle.tseen.proofs.TakenBack.{is_output_of}
use Rattle.tseen.proofs.Waiting.{IsWaiting, waits_there, not_runs, other_queued, other_waiting}
use Rattle.tseen.proofs.Wakes.{link_small}
use Rattle.tseen.proofs.Writing.{IsSpanTouched, span_read, part-length, part-at, touch_then}

-- a process that waits is ready
pub wakes_then : (site : Site) (p : Plan) (x : Name) (stand : Stand) (lent : Option Lent) (s : State)
    (Q : Unit {0} → State → Type 0) → s (Standing x) ≡ IsStand stand
    → ((c : Context) → stand ≡ Waits c → (t : State)
    → StandsNow site x (Rests (record c { lent = lent })) s t → Q tt t)
    → After (wakes x lent) s Q
wakes_then site p x stand lent s Q stood h =
    subst (λ (v : Value). After (ready (stand_in v) x lent) s Q) (sym stood) (by stand h)
  where
    by : (stand : Stand) → ((c : Context) → stand ≡ Waits c → (t : State)
        → StandsNow site x (Rests (record c { lent = lent })) s t → Q tt t)
        → After (ready stand x lent) s Q
    by (Waits c) h = stands_then site p x (Rests (record c { lent = lent })) s Q (h c refl)
    by Absent h = tt
    by (Rests c) h = tt
    by (Runs c) h = tt
    by Ended h = tt
    by (Chooses d) h = tt
    by (Chosen d) h = tt
    by (Listens channel d) h = tt

-- as many outputs have a byte of a word where each link has the same buffer
pub sendings_alike : (a b : ℕ → Option Pending) (k : ℕ) → ((l : ℕ) → is_sending k (a l) ≡ is_sending k (b l))
    → sendings a k ≡ sendings b k
sendings_alike a b k h = rw (h 0, h 1, h 2, h 3) refl

module _ (p : Plan) (s : State) (n : ℕ) (plan : NodePlan) (named : Seat → Name) (sent : ℕ → Option Pending)
    (node : Node) (shown : ShowsNode s n plan named sent node) (steady : IsSteady node) (l : ℕ) (out : Offer)
    (offers : (link_end node.machine.control l).output ≡ Some out) (fresh : was_copied node l ≡ false)
    (four : length node.copied ≡ 4) where
  abbrev m : Control
  m = node.machine.control

  abbrev store : Store
  store = node.machine.store

  abbrev pub site : Site
  site = site_of n plan

  abbrev pub x : Name
  x = named (Waiting out.wdesc)

  abbrev pub f : End
  f = end_at n l

  whole : plan.memory % 4 ≡ 0
  whole = subst (λ z. z % 4 ≡ 0) shown.size steady.sized.size.2

  told : Tells s n plan.memory store
  told = tells_from s n plan.memory store shown.size whole shown.store

  small : l < 4
  small = link_small m l out steady.placed.claimed.links offers

  offered_there : WaitsFor m out.wdesc (LinkOutput l) × IsBuffer (length store) out
  offered_there =
      subst (λ (z : Option Offer). IfSome z (λ o. WaitsFor m o.wdesc (LinkOutput l) × IsBuffer (length store) o)) offers
      (steady.placed.claimed.outputs l)

  reason_there : reason_of m out.wdesc ≡ Some (LinkOutput l)
  reason_there = reason_before m out.wdesc (LinkOutput l) offered_there.0 steady.placed.claimed.distinct m.links

  pub taken : is_some (reason_of m out.wdesc) ≡ true
  taken = ap (λ (o : Option Reason). is_some o) reason_there

  abbrev pub there : IsWaiting s n node out.wdesc (named (Waiting out.wdesc))
  there = waits_there p s n plan named sent node shown out.wdesc taken

  sent_is : sent l ≡ Some (record { request = request_of named out; copied = false })
  sent_is =
      (shown.links l small).offered out offers
      ∙ ap (λ b. Some (record { request = request_of named out; copied = b })) fresh

  pub half_is : s (LinkHalf f Output) ≡ IsLink (Offered (request_of named out))
  half_is = (shown.links l small).output ∙ ap (λ q. IsLink (half_with q)) sent_is

  abbrev pub lent_now : Lent
  lent_now = record { link = l; buffer = buffer_of out }

  abbrev pub halved : State
  halved = changed (Unfinished f) (Put (IsFlag true)) (changed (LinkHalf f Output) (Put (IsLink Empty)) s)

  -- the message was sent
  pub record IsSent (message : Store) (t : State) : Type 0 where
    pub words : Store
    pub touched : IsSpanTouched s n plan.memory Reads (buffer_of out) words
    pub is : message ≡ part_of (buffer_of out) words
    pub context : Context
    pub stood : s (Standing x) ≡ IsStand (Waits context)
    pub rests : StandsNow site x (Rests (record context { lent = Some lent_now })) halved t

  pub node_sends_then : (Q : Store → State → Type 0) → ((message : Store) (t : State) → IsSent message t → Q message t)
      → After (node_sends f site) s Q
  node_sends_then Q h =
      subst (λ (v : Value). After (sent_by site f (link_in v)) s Q) (sym half_is)
      (after_bind (touch site Reads (buffer_of out)) _ s Q
      (touch_then site whole Reads (buffer_of out) s _ told.words (λ words t.
      after_bind (wakes x (Some lent_now)) _ halved Q
      (wakes_then site p x there.stand (Some lent_now) halved _ there.stood (λ c e u r.
      h (part_of (buffer_of out) words) u (record {
        words = words;
        touched = t;
        is = refl;
        context = c;
        stood = there.stood ∙ ap IsStand e;
        rests = r;
      }))))))

  module _ (message : Store) (t : State) (k : IsSent message t) where
    abbrev now : Context
    now = record k.context { lent = Some lent_now }

    abbrev pub node' : Node
    node' = marked l true node

    abbrev pub sent' : ℕ → Option Pending
    sent' j = chosen (l == j) (Some (record { request = request_of named out; copied = true })) (sent j)

    own_sent : sent' l ≡ Some (record { request = request_of named out; copied = true })
    own_sent = rw (eq-eqb l l refl) refl

    other_sent : (j : ℕ) → (l ≡ j → ⊥) → sent' j ≡ sent j
    other_sent j h = rw (ne_eqb l j h) refl

    -- what stays
    same_halves : (q : Place) → is_output_of n l q ≡ false → halved q ≡ s q
    same_halves (LinkHalf e Output) h = rw h refl
    same_halves (Unfinished e) h = rw h refl
    same_halves (LinkHalf e Input) h = by (same_end f e)
      where
        by : (b : Bool) → cond (b && false) (IsLink Empty) (s (LinkHalf e Input)) ≡ s (LinkHalf e Input)
        by true = refl
        by false = refl
    same_halves (WordAt a b) h = refl
    same_halves (Sending a b) h = refl
    same_halves (Standing a) h = refl
    same_halves (Half a b c) h = refl
    same_halves _ h = refl

    pub stay : (q : Place) → is_stand_of x q ≡ false → is_output_of n l q ≡ false → t q ≡ s q
    stay q a b = k.rests.others q a ∙ same_halves q b

    own_half : t (LinkHalf f Output) ≡ IsLink Empty
    own_half = k.rests.others (LinkHalf f Output) refl ∙ rw (eq-eqb n n refl, eq-eqb l l refl) refl

    own_flag : t (Unfinished f) ≡ IsFlag true
    own_flag = k.rests.others (Unfinished f) refl ∙ rw (eq-eqb n n refl, eq-eqb l l refl) refl

    stand_stays : (y : Name) → same_name x y ≡ false → t (Standing y) ≡ s (Standing y)
    stand_stays y h = stay (Standing y) h refl

    run_stays : (q : ℕ) → t (HasRun n q) ≡ s (HasRun n q)
    run_stays q = stay (HasRun n q) refl refl

    other_output : (j : ℕ) → (l ≡ j → ⊥) → is_output_of n l (LinkHalf (end_at n j) Output) ≡ false
    other_output j h = rw (eq-eqb n n refl, ne_eqb l j h) refl

    other_flag : (j : ℕ) → (l ≡ j → ⊥) → is_output_of n l (Unfinished (end_at n j)) ≡ false
    other_flag j h = rw (eq-eqb n n refl, ne_eqb l j h) refl

    own_copied : was_copied node' l ≡ true
    own_copied = get_or-set_same node.copied l true false (omega (arith, four, small))

    other_copied : (j : ℕ) → (l ≡ j → ⊥) → was_copied node' j ≡ was_copied node j
    other_copied j h = get_or-set_other node.copied l j true false (λ e. h (sym e))

    -- the alternatives stay
    alternative_now : alternative_at t n x ≡ None
    alternative_now = ap (λ (v : Value). alternative_of (stand_in v)) k.rests.is

    alternative_before : alternative_at s n x ≡ None
    alternative_before = ap (λ (v : Value). alternative_of (stand_in v)) k.stood

    alternatives : (y : Name) → alternative_at t n y ≡ alternative_at s n y
    alternatives = stands_alike p s t n x stand_stays (alternative_now ∙ sym alternative_before)

    -- the links
    link_now : (j : ℕ) → j < 4 → ShowsLink t n named sent' node' j
    link_now j b =
        record {
          input = subst (IsInput named (link_end m j).input) (sym (stay (LinkHalf (end_at n j) Input) refl refl))
              old.input;
          output = output (cases_eq l j);
          unfinished = flag (cases_eq l j);
          offered = λ o e. offered o e (cases_eq l j);
          fresh = λ e. fresh_now e (cases_eq l j);
          unnoticed = old.unnoticed;
          remembered = λ e. old.remembered e
              ∙ sym (remembered_stays s t n j (ap link_in (stay (LinkHalf (end_at n j) Input) refl refl))
              (descriptors_stay s t n m.links store shown.choices (λ y h. alternatives y) j b));
          forgotten = old.forgotten;
          fired = λ y e. old.fired y (sym (stay (LinkHalf (end_at n j) Input) refl refl) ∙ e);
          pending = λ q e g. pending q e g (cases_eq l j);
        }
      where
        old : ShowsLink s n named sent node j
        old = shown.links j b

        fresh_now : (link_end m j).output ≡ None → (l ≡ j) ⊎ (l ≡ j → ⊥) → was_copied node' j ≡ false
        fresh_now e (inl g) = absurd (differ (sym offers ∙ ap (λ i. (link_end m i).output) g ∙ e))
          where
            differ : Some out ≡ None → ⊥
            differ e = cc
        fresh_now e (inr g) = other_copied j g ∙ old.fresh e

        output : (l ≡ j) ⊎ (l ≡ j → ⊥) → t (LinkHalf (end_at n j) Output) ≡ IsLink (half_with (sent' j))
        output (inl e) =
            ap (λ i. t (LinkHalf (end_at n i) Output)) (sym e) ∙ own_half
            ∙ ap (λ q. IsLink (half_with q)) (sym own_sent) ∙ ap (λ i. IsLink (half_with (sent' i))) e
        output (inr e) =
            stay (LinkHalf (end_at n j) Output) refl (other_output j e) ∙ old.output
            ∙ ap (λ q. IsLink (half_with q)) (sym (other_sent j e))

        flag : (l ≡ j) ⊎ (l ≡ j → ⊥) → t (Unfinished (end_at n j)) ≡ IsFlag (has_passed (sent' j))
        flag (inl e) =
            ap (λ i. t (Unfinished (end_at n i))) (sym e) ∙ own_flag
            ∙ ap (λ q. IsFlag (has_passed q)) (sym own_sent) ∙ ap (λ i. IsFlag (has_passed (sent' i))) e
        flag (inr e) =
            stay (Unfinished (end_at n j)) refl (other_flag j e) ∙ old.unfinished
            ∙ ap (λ q. IsFlag (has_passed q)) (sym (other_sent j e))

        offered : (o : Offer) → (link_end m j).output ≡ Some o → (l ≡ j) ⊎ (l ≡ j → ⊥)
            → sent' j ≡ Some (record { request = request_of named o; copied = was_copied node' j })
        offered o e (inl g) =
            let same : out ≡ o = one (sym offers ∙ ap (λ i. (link_end m i).output) g ∙ e) in
            ap sent' (sym g) ∙ own_sent
            ∙ ap (λ b. Some (record { request = request_of named out; copied = b })) (sym own_copied)
            ∙ ap (λ i. Some (record { request = request_of named out; copied = was_copied node' i })) g
            ∙ ap (λ z. Some (record { request = request_of named z; copied = was_copied node' j })) same
          where
            one : {a b : Offer} → Some a ≡ Some b → a ≡ b
            one e = cc
        offered o e (inr g) =
            other_sent j g ∙ old.offered o e
            ∙ ap (λ b. Some (record { request = request_of named o; copied = b })) (sym (other_copied j g))

        pending : (q : Pending) → sent' j ≡ Some q → q.copied ≡ false → (l ≡ j) ⊎ (l ≡ j → ⊥)
            → (o : Offer) × ((link_end m j).output ≡ Some o)
        pending q e h (inl g) = (out, ap (λ i. (link_end m i).output) (sym g) ∙ offers)
        pending q e h (inr g) = old.pending q (sym (other_sent j g) ∙ e) h

    sending_stays : (j i : ℕ) → is_sending j (sent' i) ≡ is_sending j (sent i)
    sending_stays j i = by (cases_eq l i)
      where
        by : (l ≡ i) ⊎ (l ≡ i → ⊥) → is_sending j (sent' i) ≡ is_sending j (sent i)
        by (inl e) =
            ap (λ z. is_sending j (sent' z)) (sym e) ∙ ap (is_sending j) own_sent ∙ sym (ap (is_sending j) sent_is)
            ∙ ap (λ z. is_sending j (sent z)) e
        by (inr e) = ap (is_sending j) (other_sent i e)

    uses : (j : ℕ) → use_of t n j ≡ use_of s n j
    uses j = ap (λ (v : Value). (word_in v).used) (stay (WordAt n j) refl refl)

    -- the seats
    passes : (b : ℕ) → HasPassed node b → HasPassed node' b
    passes b h = (h.0, h.1, by (cases_eq l h.0))
      where
        by : (l ≡ h.0) ⊎ (l ≡ h.0 → ⊥) → was_copied node' h.0 ≡ true
        by (inl e) = ap (was_copied node') (sym e) ∙ own_copied
        by (inr e) = other_copied h.0 e ∙ h.2

    fits : (q : Seat) (stand : Stand) → Fits node q stand → Fits node' q stand
    fits Current (Runs c) h = h
    fits Current (Rests c) h = h
    fits Current (Waits c) h = h
    fits Current Absent h = h
    fits Current Ended h = h
    fits Current (Chooses d) h = h
    fits Current (Chosen d) h = h
    fits Current (Listens channel d) h = h
    fits Interrupted (Runs c) h = h
    fits Interrupted (Rests c) h = h
    fits Interrupted (Waits c) h = h
    fits Interrupted Absent h = h
    fits Interrupted Ended h = h
    fits Interrupted (Chooses d) h = h
    fits Interrupted (Chosen d) h = h
    fits Interrupted (Listens channel d) h = h
    fits (Queued process) (Runs c) h = h
    fits (Queued process) (Rests c) h = h
    fits (Queued process) (Waits c) h = h
    fits (Queued process) Absent h = h
    fits (Queued process) Ended h = h
    fits (Queued process) (Chooses d) h = h
    fits (Queued process) (Chosen d) h = h
    fits (Queued process) (Listens channel d) h = h
    fits (Waiting process) (Runs c) h = h
    fits (Waiting process) (Rests c) h = (h.0, passes process h.1)
    fits (Waiting process) (Waits c) h = h
    fits (Waiting process) Absent h = h
    fits (Waiting process) Ended h = h
    fits (Waiting process) (Chooses d) h = h
    fits (Waiting process) (Chosen d) h = h
    fits (Waiting process) (Listens channel d) h = h

    other_seated : (q : Seat) (y : Name) → same_name x y ≡ false → IsSeated s n node q y → IsSeated t n node' q y
    other_seated q y other z =
        record {
          home = z.home;
          stand = z.stand;
          stands = stand_stays y other ∙ z.stands;
          fits = fits q z.stand z.fits;
          has_run = IfSome_then (context_in z.stand) z.has_run (λ d e. run_stays d.priority ∙ e);
        }

    same_context : there.context ≡ k.context
    same_context = by there.how
      where
        waits : {a b : Context} → IsStand (Waits a) ≡ IsStand (Waits b) → a ≡ b
        waits e = cc

        rests : {a b : Context} → IsStand (Rests a) ≡ IsStand (Waits b) → ⊥
        rests e = cc

        differ : Some (LinkOutput l) ≡ Some waiting.Chooses → ⊥
        differ e = cc

        by : (there.stand ≡ Rests there.context) ⊎ ((there.stand ≡ Waits there.context)
            ⊎ (reason_of m out.wdesc ≡ Some waiting.Chooses)) → there.context ≡ k.context
        by (inl e) = absurd (rests (sym (ap IsStand e) ∙ sym there.stood ∙ k.stood))
        by (inr (inr e)) = absurd (differ (sym reason_there ∙ e))
        by (inr (inl e)) = waits (sym (ap IsStand e) ∙ sym there.stood ∙ k.stood)

    own_seated : IsSeated t n node' (Waiting out.wdesc) x
    own_seated =
        let saved : HasSaved store out.wdesc k.context = subst (HasSaved store out.wdesc) same_context there.saved in
        record {
          home = there.home;
          stand = Rests now;
          stands = k.rests.is;
          fits = (
            record {
              priority = saved.priority;
              wptr = saved.wptr;
              iptr = saved.iptr;
              a = saved.a;
              b = saved.b;
              c = saved.c;
            },
            (l, reason_there, own_copied),
          );
          has_run = run_stays k.context.priority
              ∙ subst (λ (d : Context). s (HasRun n d.priority) ≡ IsFlag true) same_context there.has_run;
        }

    -- a process with another name
    runs_not : (q : Seat) (y : Name) → IsSeated s n node q y
        → ((stand : Stand) → Fits node q stand → (d : Context) × (stand ≡ Runs d)) → same_name x y ≡ false
    runs_not q y z h =
        let d = h z.stand z.fits in
        not_runs p s n plan named sent node shown out.wdesc taken y d.0 (z.stands ∙ ap IsStand d.1)

    current_runs : (stand : Stand) → Fits node Current stand → (d : Context) × (stand ≡ Runs d)
    current_runs (Runs d) h = (d, refl)
    current_runs (Rests d) h = absurd h
    current_runs (Waits d) h = absurd h
    current_runs Absent h = absurd h
    current_runs Ended h = absurd h
    current_runs (Chooses d) h = absurd h
    current_runs (Chosen d) h = absurd h
    current_runs (Listens channel d) h = absurd h

    interrupted_runs : (stand : Stand) → Fits node Interrupted stand → (d : Context) × (stand ≡ Runs d)
    interrupted_runs (Runs d) h = (d, refl)
    interrupted_runs (Rests d) h = absurd h
    interrupted_runs (Waits d) h = absurd h
    interrupted_runs Absent h = absurd h
    interrupted_runs Ended h = absurd h
    interrupted_runs (Chooses d) h = absurd h
    interrupted_runs (Chosen d) h = absurd h
    interrupted_runs (Listens channel d) h = absurd h

    seated : (q : Seat) → is_taken m q ≡ true → IsSeated t n node' q (named q)
    seated Current h =
        let z = shown.processes.seated Current h in
        other_seated Current (named Current) (runs_not Current (named Current) z current_runs) z
    seated Interrupted h =
        let z = shown.processes.seated Interrupted h in
        other_seated Interrupted (named Interrupted) (runs_not Interrupted (named Interrupted) z interrupted_runs) z
    seated (Queued b) h =
        other_seated (Queued b) (named (Queued b)) (other_queued p s n plan named sent node shown out.wdesc taken b
        (is_new m out.wdesc (LinkOutput l) offered_there.0 steady.placed.claimed.distinct m.links b h) h)
        (shown.processes.seated (Queued b) h)
    seated (Waiting b) h = by (cases_eq b out.wdesc)
      where
        by : (b ≡ out.wdesc) ⊎ (b ≡ out.wdesc → ⊥) → IsSeated t n node' (Waiting b) (named (Waiting b))
        by (inl e) = subst (λ z. IsSeated t n node' (Waiting z) (named (Waiting z))) (sym e) own_seated
        by (inr e) =
            other_seated (Waiting b) (named (Waiting b))
            (other_waiting p s n plan named sent node shown out.wdesc taken b e h)
            (shown.processes.seated (Waiting b) h)

    abbrev HasPlace : Name → Type 0
    HasPlace y = IsGone t n y ⊎ ((q : Seat) × (is_taken m q ≡ true) × (named q ≡ y))

    placed : (y : Name) → y.node ≡ n → HasPlace y
    placed y h = by (same_name x y) refl
      where
        of : same_name x y ≡ false → IsGone s n y ⊎ ((q : Seat) × (is_taken m q ≡ true) × (named q ≡ y)) → HasPlace y
        of n' (inl (inl e)) = inl (inl (stand_stays y n' ∙ e))
        of n' (inl (inr e)) = inl (inr (stand_stays y n' ∙ e))
        of n' (inr q) = inr q

        by : (b : Bool) → same_name x y ≡ b → HasPlace y
        by true e = inr (Waiting out.wdesc, taken, one_name p x y e)
        by false e = of e (shown.processes.there y h)

    -- who waits here stands as waiting, so its name is none of one that rests
    rests_not : (y : Name) (d : Context) → s (Standing y) ≡ IsStand (Rests d) → same_name x y ≡ false
    rests_not y d e = other_name p s x y (Waits k.context) (Rests d) is_waiting k.stood e refl refl
      where
        is_waiting : Value → Bool
        is_waiting (IsStand (Waits c)) = true
        is_waiting _ = false

    lent : (y : Name) (d : Context) (z : Lent) → y.node ≡ n → t (Standing y) ≡ IsStand (Rests d)
        → d.lent ≡ Some z → (b : Bool) → same_name x y ≡ b → (z.link < 4)
        × (sent' z.link ≡ Some (record { request = record { process = y; buffer = z.buffer }; copied = true }))
    lent y d z h e g false n' =
        let old = shown.processes.lent y d z h (sym (stand_stays y n') ∙ e) g in
        (old.0, other_sent z.link (λ q. differ (sym sent_is ∙ ap sent q ∙ old.1) refl refl) ∙ old.1)
      where
        differ : {a b : Pending} → Some a ≡ Some b → a.copied ≡ false → b.copied ≡ true → ⊥
        differ {a} {b} e f g =
            let same : a ≡ b = some_of e in
            true≢false (sym g ∙ ap (λ (v : Pending). v.copied) (sym same) ∙ f)
          where
            some_of : {a b : Pending} → Some a ≡ Some b → a ≡ b
            some_of e = cc
    lent y d z h e g true same =
        let name : x ≡ y = one_name p x y same in
        let own : Some lent_now ≡ Some z =
        lent_of (sym k.rests.is ∙ ap (λ v. t (Standing v)) name ∙ e) ∙ g in
        subst (λ (v : Lent). (v.link < 4)
        × (sent' v.link ≡ Some (record { request = record { process = y; buffer = v.buffer }; copied = true })))
        (some_of own) (
          small,
          own_sent
              ∙ ap (λ v. Some (record { request = record { process = v; buffer = buffer_of out }; copied = true }))
              name,
        )
      where
        some_of : {a b : Lent} → Some a ≡ Some b → a ≡ b
        some_of e = cc

        lent_in : Value → Option Lent
        lent_in (IsStand (Rests b)) = b.lent
        lent_in _ = None

        lent_of : IsStand (Rests now) ≡ IsStand (Rests d) → Some lent_now ≡ d.lent
        lent_of e = ap lent_in e

    passed : (j : ℕ) (q : Pending) → sent' j ≡ Some q → q.copied ≡ true → (l ≡ j) ⊎ (l ≡ j → ⊥)
        → (q.request.process.node ≡ n) × (d : Context) × (t (Standing q.request.process) ≡ IsStand (Rests d))
        × (d.lent ≡ Some (record { link = j; buffer = q.request.buffer }))
    passed j q e h (inl g) =
        subst (λ (z : Pending). (z.request.process.node ≡ n) × (d : Context)
        × (t (Standing z.request.process) ≡ IsStand (Rests d))
        × (d.lent ≡ Some (record { link = j; buffer = z.request.buffer })))
        (some_of (sym own_sent ∙ ap sent' g ∙ e)) (
          there.home,
          now,
          k.rests.is,
          ap (λ i. Some (record { link = i; buffer = buffer_of out })) g,
        )
      where
        some_of : {a b : Pending} → Some a ≡ Some b → a ≡ b
        some_of e = cc
    passed j q e h (inr g) =
        let old = shown.processes.passed j q (sym (other_sent j g) ∙ e) h in
        (old.0, old.1, stand_stays q.request.process (rests_not q.request.process old.1 old.2) ∙ old.2, old.3)

    keeps_flags : KeepsFlags t n → KeepsFlags s n
    keeps_flags h =
        rw (sym (stay (FlagChanged n) refl refl), sym (run_stays 0), sym (run_stays 1)) h

    has_flags : (r : Registers) → HasFlags s n r → HasFlags t n r
    has_flags r h =
        record {
          error = stay (Error n) refl refl ∙ h.error;
          halting = stay (HaltOnError n) refl refl ∙ h.halting;
        }

    processes_now : ShowsProcesses t n named sent' node'
    processes_now =
        record {
          seated = seated;
          there = placed;
          lent = λ y d z h e g. lent y d z h e g (same_name x y) refl;
          passed = λ j q e h. passed j q e h (cases_eq l j);
          lives = λ w. stay (Life n w) refl refl ∙ shown.processes.lives w;
          population = (
            shown.processes.population.0,
            stay (Population n) refl refl ∙ shown.processes.population.1,
            shown.processes.population.2,
          );
          interrupting = IfSome_then m.interrupted shown.processes.interrupting (λ z e. run_stays 0 ∙ e);
          flags = λ h. has_flags m.registers (shown.processes.flags (keeps_flags h));
          kept_flags = λ h. IfSome_then m.interrupted (shown.processes.kept_flags (keeps_flags h))
              (λ z e. has_flags z.registers e);
        }

    -- so the node is shown
    pub sent_shown : ShowsNode t n plan named sent' node'
    sent_shown =
        record {
          role = shown.role;
          works = shown.works;
          runs_on = shown.runs_on;
          size = shown.size;
          kind = shown.kind;
          store = λ j h. subst (ShowsWord store j) (sym (stay (WordAt n j) refl refl)) (shown.store j h);
          marks = marks_from s t n sent sent' m m
              (λ v h. saved_words_stay s t n v (λ j e. stay (WordAt n j) refl refl)
              (All-contains (AreSavedWords s n) (descheduled m) v shown.marks.saved h)) (λ j. refl)
              (λ j e. uses j ∙ e)
              (λ j. stay (Sending n j) refl refl ∙ shown.marks.outputs j
              ∙ ap (λ z. IsAmount (pos z)) (sym (sendings_alike sent' sent j (sending_stays j))))
              (λ j. ap awaits_successor (uses j) ∙ shown.marks.no_successor j) shown.marks;
          channels = channels_stay s t n named named node.machine node.machine (λ w. refl) (λ j e. uses j ∙ e)
              (λ j e. sym (uses j) ∙ e) (λ c side. stay (Half n c side) refl refl)
              (λ q. refl) refl (λ c h e. refl) shown.channels;
          links = link_now;
          processes = processes_now;
          choices = choices_stay s t n m.links m.links store store
              (inputs_stay s t n m.links m.links (λ j. stay (LinkHalf (end_at n j) Input) refl refl) refl)
              (λ y h. alternatives y)
              (λ y h e. quiet_alike p s t n x stand_stays quiet_now y e) (λ y h. stay (Ports y) refl refl)
              (λ a side. stay (Half n a side) refl refl) (λ j e z. ap amount_in (stay (Sending n j) refl refl) ∙ z)
              (λ j e. stay (WordAt n j) refl refl) refl (λ a h e. refl)
              shown.choices;
        }
      where
        quiet_now : is_quiet (stand_in (t (Standing x))) ≡ true
        quiet_now =
            ap (λ (v : Value). is_quiet (stand_in v)) k.rests.is
            ∙ sym (ap (λ (v : Value). is_quiet (stand_in v)) k.stood) ∙ shown.choices.quiet x there.home

    -- other nodes stay
    pub sent_elsewhere : (q : Place) → node_at q ≢ n → t q ≡ s q
    sent_elsewhere q h = stay q (stand q h) (output q h)
      where
        stand : (q : Place) → node_at q ≢ n → is_stand_of x q ≡ false
        stand (Standing y) h = rw (ne_eqb x.node y.node (λ e. h (sym e ∙ there.home))) refl
        stand _ h = refl

        output : (q : Place) → node_at q ≢ n → is_output_of n l q ≡ false
        output (LinkHalf e Output) h = rw (ne_eqb n e.node (λ g. h (sym g))) refl
        output (LinkHalf e Input) h = refl
        output (Unfinished e) h = rw (ne_eqb n e.node (λ g. h (sym g))) refl
        output _ h = refl

    -- what others offer stays
    pub sent_others : (r : Role) (g : End) → (g ≡ f → ⊥) → t (offer_place r g) ≡ s (offer_place r g)
    sent_others r g d = by r
      where
        apart : same_end f g ≡ false
        apart = of (same_end f g) refl
          where
            of : (b : Bool) → same_end f g ≡ b → same_end f g ≡ false
            of false e = e
            of true e = absurd (d (sym (same_end-true f g e)))

        by : (r : Role) → t (offer_place r g) ≡ s (offer_place r g)
        by Source = stay (Messages g) refl refl
        by Processor = stay (LinkHalf g Output) refl apart
        by Sink = stay (LinkHalf g Output) refl apart
        by Nothing = stay (LinkHalf g Output) refl apart

    -- what is known of the message is there
    lies : Lies (length store) out
    lies = buffer_lies (length store) out offered_there.1

    pub message_length : length (cells store out.buffer out.length) ≡ out.length
    message_length = range-length store (place out.buffer) out.length lies.within

    long : length message ≡ out.length
    long =
        ap length k.is
        ∙ part-length s n plan.memory (buffer_of out) k.words whole
        (span_read s n plan.memory Reads (buffer_of out) k.words k.touched)

    pub message_known : KnowsCells message (cells store out.buffer out.length)
    message_known =
        knows-from message (cells store out.buffer out.length) (long ∙ sym message_length) (λ j b.
        let small : j < out.length = omega (arith, b, long) in
        subst (λ (z : Option ℕ). Knows z (get_or (cells store out.buffer out.length) j None))
        (sym (ap (λ (z : Store). get_or z j None) k.is
        ∙ part-at s n plan.memory (buffer_of out) k.words whole
        (span_read s n plan.memory Reads (buffer_of out) k.words k.touched) j small))
        (subst (λ (z : Option ℕ). Knows (cell s n (place out.buffer + j)) z)
        (sym (range-at store (place out.buffer) out.length j small))
        (told.cells (place out.buffer + j) (omega (arith, lies.within, small, told.length)))))
