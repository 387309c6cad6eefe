-- What is shown of a net stays shown where the output of a processor is over.
use Rattle.tseen.proofs.Choices.{is_lasting, lasting_not_saved, choices_stay}
use Rattle.std.proofs.Common.{◌≡◌, ℕ, zero, suc, ◌+◌, ◌*◌, ◌<◌, ◌≤◌, ◌%◌, refl, sym, ap, subst, ◌∙◌, Bool, true}
use Rattle.std.proofs.Common.{false}
use Rattle.std.proofs.Common.{true≢false, List, [], ◌∷◌, length, get_or, Contains, Option, Some, None, arith, ◌⊎◌}
use Rattle.std.proofs.Common.{inl, inr}
use Rattle.std.proofs.Math.ListN.{get_or-eq_default}
use Rattle.std.specs.Prelude.{IfSome, slice_get, slice_set}
use Rattle.std.proofs.lemmas.Bool.{cases_eq, cases_lt}
use Rattle.std.proofs.lemmas.Option.{IfSome_then}
use Rattle.std.proofs.lemmas.List.{get_or-set_same, get_or-set_other, length-set}
use Rattle.std.proofs.lemmas.List.Elements.{All-contains}
use Rattle.tword.specs.Words.{most_neg, word_below}
use Rattle.tword.specs.Stores.{Store, place, word_at, hiding}
use Rattle.tword.specs.declared.span.Span.{Span}
use Rattle.tword.specs.Claims.{is_input}
use Rattle.tword.specs.Touches.{byte_span, word_place_break}
use Rattle.tlink.specs.Roles.{Role, Processor, role_woken, woken}
use Rattle.tplan.specs.declared.plan.NodePlan.{NodePlan}
use Rattle.tplan.specs.declared.plan.Plan.{Plan}
use Rattle.tproc.specs.declared.waiter.Reason.TheVariants as waiting
use Rattle.tproc.specs.declared.offer.Offer.{Offer}
use Rattle.tproc.specs.declared.channels.Side.{Side}
use Rattle.tproc.specs.declared.channels.Side.TheVariants.{Input, Output}
use Rattle.tproc.specs.declared.waiter.LinkEnd.{LinkEnd}
use Rattle.tproc.specs.declared.waiter.Reason.TheVariants.{LinkOutput}
use Rattle.tproc.specs.Machine.{Control, Machine, claims_of, descheduled, workspace_of, priority_of}
use Rattle.tproc.specs.Hidden.{hidden}
use Rattle.tproc.specs.LinkChannels.{link_end, quiet_end}
use Rattle.tproc.specs.Links.{finish_output}
use Rattle.tproc.specs.Placement.{IsPlaced, IsOfferOf, HasOffer, IsBuffer, IsWorkspace, IsWord, WaitsFor}
use Rattle.tproc.specs.ProcessStatus.{reason_of}
use Rattle.tproc.specs.Queues.{iptr_word, last_of}
use Rattle.tproc.specs.SavedWords.{WordStands}
use Rattle.tproc.proofs.LinkClaims.{input_claim, inputs_of, set_same}
use Rattle.tproc.proofs.SavedWords.{saved_words_stand}
use Rattle.tproc.proofs.Waiters.{found_waiter}
use Rattle.tnet.specs.Rendezvous.{Node, Configuration, node_of, put_node, marked, was_copied}
use Rattle.treduction.proofs.LinkActions.{finish_output_is, linked, last_before, without_out}
use Rattle.tplan.specs.Wires.{end_at}
use Rattle.tprocesses.specs.Places.{Name, Standing, LinkHalf}
use Rattle.tprocesses.specs.Values.{Saved, Receiving, Context, Rests, Waits, IsStand}
use Rattle.tprocesses.specs.Touching.{word_number}
use Rattle.tprocesses.specs.Machine.{site_of}
use Rattle.tseen.specs.Seats.{Seat, Waiting}
use Rattle.tseen.specs.Outputs.{Pending}
use Rattle.tseen.specs.Words.{AreSavedWords, use_at}
use Rattle.tseen.specs.Halves.{ShowsLink, IsInput, reason_at, request_of}
use Rattle.tseen.specs.Processes.{HasPassed}
use Rattle.tseen.specs.Shown.{Shows, ShowsNode}
use Rattle.tseen.specs.Steps.{IsSteady}
use Rattle.tseen.specs.Linked.{WakesAreSeen}
use Rattle.tseen.proofs.After.{State}
use Rattle.tseen.proofs.Adding.{last_descheduled}
use Rattle.tseen.proofs.Built.{lies_below}
use Rattle.tseen.proofs.Cells.{use_of, tells_from, shows_from}
use Rattle.tseen.proofs.ChannelsKept.{channels_kept}
use Rattle.tseen.proofs.Nets.{net_shown}
use Rattle.tseen.proofs.SetLinks.{alike}
use Rattle.tseen.proofs.QueueLinks.{IsLinked, linked_then, linked_tells, word_alike}
use Rattle.tseen.proofs.Receives.{input_receives}
use Rattle.tseen.proofs.Rejoined.{joins, reason_before, reason_now, no_reason, same_queue, still_there}
use Rattle.tseen.proofs.NoticedOffers.{has_noticed, own_notices}
use Rattle.tseen.proofs.Staying.{marks_from, input_renamed}
use Rattle.tseen.proofs.Stepped.{hidden_if}
use Rattle.tseen.proofs.Waiting.{IsWaiting}
use Rattle.tseen.proofs.Woken.{IsWoken, control', node', waiting, named', processes_woken}
use Rattle.tseen.proofs.Writing.{word_lies}

-- a link that has an output is one of the four
pub link_small : (m : Control) (l : ℕ) (o : Offer) → length m.links ≡ 4 → (link_end m l).output ≡ Some o → l < 4
link_small m l o four h = by (cases_lt l 4)
  where
    by : (l < 4) ⊎ (4 ≤ l) → l < 4
    by (inl b) = b
    by (inr b) =
        absurd (differ (sym h ∙ ap (λ (e : LinkEnd). e.output)
        (get_or-eq_default m.links quiet_end (subst (λ z. z ≤ l) (sym four) b))))
      where
        differ : Some o ≡ None → ⊥
        differ e = cc

module _ (p : Plan) (s : State) (n : ℕ) (plan : NodePlan) (named : Seat → Name) (sent : ℕ → Option Pending)
    (node : Node) (shown : ShowsNode s n plan named sent node) (steady : IsSteady node) (l : ℕ) (out : Offer)
    (sends : (link_end node.machine.control l).output ≡ Some out) (copied : was_copied node l ≡ true) where
  abbrev m : Control
  m = node.machine.control

  abbrev store : Store
  store = node.machine.store

  abbrev placed : IsPlaced node.machine
  placed = steady.placed

  abbrev process : ℕ
  process = out.wdesc

  pub offered_there : WaitsFor m out.wdesc (LinkOutput l) × IsBuffer (length store) out
  offered_there =
      subst (λ (z : Option Offer). IfSome z (λ o. WaitsFor m o.wdesc (LinkOutput l) × IsBuffer (length store) o)) sends
      (placed.claimed.outputs l)

  abbrev waits : WaitsFor m out.wdesc (LinkOutput l)
  waits = offered_there.0

  abbrev ended : LinkEnd
  ended = record (link_end m l) { output = None }

  abbrev ls : List LinkEnd
  ls = slice_set m.links l ended

  abbrev store' : Store
  store' = linked (last_before process (without_out l m)) (claims_of m) (workspace_of process) store

  abbrev flags : List Bool
  flags = slice_set node.copied l false

  abbrev now : Control
  now = control' p s s n plan named sent node shown placed process (LinkOutput l) waits ls store' flags

  abbrev awake : Node
  awake = node' p s s n plan named sent node shown placed process (LinkOutput l) waits ls store' flags

  abbrev there : IsWaiting s n node process (named (Waiting process))
  there = waiting p s s n plan named sent node shown placed process (LinkOutput l) waits ls store' flags

  small : l < 4
  small = link_small m l out placed.claimed.links sends

  -- the output that is over
  sent_is : sent l ≡ Some (record { request = request_of named out; copied = true })
  sent_is =
      (shown.links l small).offered out sends
      ∙ ap (λ b. Some (record { request = request_of named out; copied = b })) copied

  -- its process rests
  rests : s (Standing (named (Waiting process))) ≡ IsStand (Rests there.context)
  rests = by there.how
    where
      by : (there.stand ≡ Rests there.context) ⊎ ((there.stand ≡ Waits there.context)
          ⊎ (reason_of m process ≡ Some waiting.Chooses))
          → s (Standing (named (Waiting process))) ≡ IsStand (Rests there.context)
      by (inl e) = there.stood ∙ ap IsStand e
      by (inr (inr e)) = absurd
          (other_reason (sym (reason_before m process (LinkOutput l) waits placed.claimed.distinct ls) ∙ e))
        where
          other_reason : Some (LinkOutput l) ≡ Some waiting.Chooses → ⊥
          other_reason e = cc
      by (inr (inl e)) =
          let old = shown.processes.passed l (record { request = request_of named out; copied = true }) sent_is refl in
          absurd (differ (sym (there.stood ∙ ap IsStand e) ∙ old.2))
        where
          differ : {a b : Context} → IsStand (Waits a) ≡ IsStand (Rests b) → ⊥
          differ e = cc

  -- the store
  last_in : (v : ℕ) → last_before process (without_out l m) ≡ Some v → Contains (descheduled m) v
  last_in v e =
      last_descheduled m (priority_of process) v
      (ap last_of (sym (same_queue m process (LinkOutput l) waits placed.claimed.distinct ls (priority_of process)))
      ∙ e)

  abbrev saved_of : (v : ℕ) → Contains (descheduled m) v → AreSavedWords s n v
  saved_of v h = All-contains (AreSavedWords s n) (descheduled m) v shown.marks.saved h

  linked_store : IsLinked s n store store'
  linked_store =
      linked_then s n store (claims_of m) (workspace_of process) (last_before process (without_out l m)) (λ v e. (
        saved_of v (last_in v e),
        lies_below (length store) v 2 placed.claimed.size
            (All-contains (IsWorkspace (length store)) (descheduled m) v placed.claimed.saved (last_in v e))
            (All-contains IsWord (descheduled m) v placed.workspaces (last_in v e)) (omega arith, omega arith),
      ))

  whole : plan.memory % 4 ≡ 0
  whole = subst (λ z. z % 4 ≡ 0) shown.size steady.sized.size.2

  iptrs : (a : ℕ) → Contains (descheduled m) a
      → word_at store' (word_below a iptr_word) ≡ word_at store (word_below a iptr_word)
  iptrs a h =
      subst (λ (z : Machine). WordStands iptr_word a node.machine z) (finish_output_is l node.machine out sends)
      (All-contains (λ v. WordStands iptr_word v node.machine (finish_output l node.machine)) (descheduled m) a
      ((saved_words_stand node.machine placed).outputs l).iptrs h)

  -- the links
  link_now : (j : ℕ) → link_end now j ≡ get_or ls j quiet_end
  link_now j =
      ap (λ (xs : List LinkEnd). get_or xs j quiet_end)
      (joins m process (LinkOutput l) waits placed.claimed.distinct ls).links

  input_is : (j : ℕ) → (link_end now j).input ≡ (link_end m j).input
  input_is j = ap (λ (e : LinkEnd). e.input) (link_now j) ∙ alike (λ (e : LinkEnd). e.input) m.links l j _ refl

  noticed_is : (j : ℕ) → (link_end now j).noticed ≡ (link_end m j).noticed
  noticed_is j = ap (λ (e : LinkEnd). e.noticed) (link_now j) ∙ alike (λ (e : LinkEnd). e.noticed) m.links l j _ refl

  remembered_is : (j : ℕ) → (link_end now j).remembered ≡ (link_end m j).remembered
  remembered_is j =
      ap (λ (e : LinkEnd). e.remembered) (link_now j) ∙ alike (λ (e : LinkEnd). e.remembered) m.links l j _ refl

  other_link : (j : ℕ) → (j ≡ l → ⊥) → link_end now j ≡ link_end m j
  other_link j h = link_now j ∙ get_or-set_other m.links l j ended quiet_end h

  own_link : (link_end now l).output ≡ None
  own_link =
      ap (λ (e : LinkEnd). e.output) (link_now l
      ∙ get_or-set_same m.links l ended quiet_end (subst (λ z. l < z) (sym placed.claimed.links) small))

  other_copied : (j : ℕ) → (j ≡ l → ⊥) → was_copied awake j ≡ was_copied node j
  other_copied j h = get_or-set_other node.copied l j false false h

  own_copied : was_copied awake l ≡ false
  own_copied = by (cases_lt l (length node.copied))
    where
      past : (bs : List Bool) (i : ℕ) → length bs ≤ i → get_or bs i false ≡ false
      past [] i h = refl
      past (b ∷ bs) zero h = absurd (omega arith)
      past (b ∷ bs) (suc i) h = past bs i (omega arith)

      by : (l < length node.copied) ⊎ (length node.copied ≤ l) → was_copied awake l ≡ false
      by (inl b) = get_or-set_same node.copied l false false b
      by (inr b) = past flags l (omega (arith, b, length-set node.copied l false))

  -- a process that waits for the output is this one
  only_one : (b : ℕ) → reason_of m b ≡ Some (LinkOutput l) → b ≡ process
  only_one b e =
      sym (subst (λ (o : Option Offer). IsOfferOf b o) sends
      (All-contains (λ w. HasOffer m w.process w.reason) m.waiting (record { process = b; reason = LinkOutput l })
      placed.offered (found_waiter m.waiting b (LinkOutput l) e)))

  passes : (b : ℕ) → (b ≡ process → ⊥) → HasPassed node b → HasPassed awake b
  passes b other h = (
    h.0,
    reason_now m process (LinkOutput l) waits placed.claimed.distinct ls b other ∙ h.1,
    other_copied h.0 (λ e. other (only_one b (h.1 ∙ ap (λ j. Some (LinkOutput j)) e))) ∙ h.2,
  )

  pub woken_there : IsWoken p s s n plan named sent node shown placed process (LinkOutput l) waits ls store' flags
      there.context.lent
  woken_there =
      record {
        rests = rests;
        stays = λ q h. refl;
        iptrs = iptrs;
        passes = passes;
        lent_sent = λ t e. shown.processes.lent (named (Waiting process)) there.context t there.home rests e;
        passed = shown.processes.passed;
      }

  abbrev renamed_to : Seat → Name
  renamed_to =
      named' p s s n plan named sent node shown placed process (LinkOutput l) waits ls store' flags

  link_awake : (j : ℕ) → j < 4 → ShowsLink s n renamed_to sent awake j
  link_awake j b =
      record {
        input = subst (λ (o : Option Offer). IsInput renamed_to o (s (LinkHalf (end_at n j) Input))) (sym (input_is j))
            (input_renamed named renamed_to (link_end m j).input _ _ (λ o e. refl) refl old.input);
        output = old.output;
        unfinished = old.unfinished;
        offered = λ o e. offered o e (cases_eq j l);
        fresh = λ e. fresh e (cases_eq j l);
        unnoticed = λ o e. noticed_is j ∙ old.unnoticed o (sym (input_is j) ∙ e);
        remembered = λ e. remembered_is j ∙ old.remembered (sym (noticed_is j) ∙ e);
        forgotten = λ e. remembered_is j ∙ old.forgotten (sym (noticed_is j) ∙ e);
        fired = λ x e. noticed_is j ∙ old.fired x e;
        pending = λ q e f. pending q e f (cases_eq j l);
      }
    where
      old : ShowsLink s n named sent node j
      old = shown.links j b

      fresh : (link_end now j).output ≡ None → (j ≡ l) ⊎ (j ≡ l → ⊥) → was_copied awake j ≡ false
      fresh e (inl f) = ap (was_copied awake) f ∙ own_copied
      fresh e (inr f) = other_copied j f ∙ old.fresh (ap (λ (z : LinkEnd). z.output) (sym (other_link j f)) ∙ e)

      offered : (o : Offer) → (link_end now j).output ≡ Some o → (j ≡ l) ⊎ (j ≡ l → ⊥)
          → sent j ≡ Some (record { request = request_of named o; copied = was_copied awake j })
      offered o e (inl f) =
          absurd (differ (sym e ∙ ap (λ i. (link_end now i).output) f ∙ own_link))
        where
          differ : Some o ≡ None → ⊥
          differ e = cc
      offered o e (inr f) =
          old.offered o (ap (λ (z : LinkEnd). z.output) (sym (other_link j f)) ∙ e)
          ∙ ap (λ t. Some (record { request = request_of named o; copied = t })) (sym (other_copied j f))

      pending : (q : Pending) → sent j ≡ Some q → q.copied ≡ false → (j ≡ l) ⊎ (j ≡ l → ⊥)
          → (o : Offer) × ((link_end now j).output ≡ Some o)
      pending q e f (inl g) =
          let same : Some (record { request = request_of named out; copied = true }) ≡ Some q =
          sym sent_is ∙ ap sent (sym g) ∙ e in
          absurd (true≢false (copied_of same ∙ f))
        where
          copied_of : {a b : Pending} → Some a ≡ Some b → a.copied ≡ b.copied
          copied_of {a} {b} e = ap (λ (z : Pending). z.copied) (same e)
            where
              same : {a b : Pending} → Some a ≡ Some b → a ≡ b
              same e = cc
      pending q e f (inr g) =
          let o = old.pending q e f in (o.0, ap (λ (z : LinkEnd). z.output) (other_link j g) ∙ o.1)

  no_channel : (side : Side) (channel : ℕ) (buffer : Span) → Some (LinkOutput l) ≡ Some (reason_at side channel buffer)
      → ⊥
  no_channel Input channel buffer e = cc
  no_channel Output channel buffer e = cc

  lasting_word : (c : ℕ) → word_place_break (length store) c ≡ None → is_lasting (use_at s n c) ≡ true
      → word_at store' c ≡ word_at store c
  lasting_word c h e =
      let at : (place c ≡ 4 * word_number c) × (most_neg ≤ c) × (4 * word_number c + 4 ≤ plan.memory) =
      word_lies (site_of n plan) whole c (subst (λ z. word_place_break z c ≡ None) shown.size h) in
      word_alike store store' c linked_store.size
      (record {
        above = at.1;
        within = omega (arith, at.0, at.2, shown.size);
        aligned = omega (arith, at.0, at.1);
      }) (λ j b. linked_store.only (place c + j) (λ f.
      lasting_not_saved e (ap (use_of s n) (sym (omega (arith, at.0, b))) ∙ f)))

  buffers : (j : ℕ) → IfSome (link_end m j).input (IsBuffer (length store))
  buffers j = IfSome_then (link_end m j).input (placed.claimed.inputs j) (λ o h. h.1)

  hidden_still : hidden awake.machine ≡ awake.machine
  hidden_still =
      ap (λ (z : Store). record { control = now; store = z })
      (ap (λ (xs : List (Option Span)). hiding (λ a. is_input (record (claims_of m) { inputs = xs }) (byte_span a))
      store') (ap inputs_of (joins m process (LinkOutput l) waits placed.claimed.distinct ls).links
      ∙ set_same input_claim m.links l ended refl)
      ∙ hidden_if m store store' (λ i h. linked_store.only i (λ e.
      differ (sym (input_receives s n sent m (length store) buffers shown.marks i h) ∙ e)))
      (ap (λ (z : Machine). z.store) steady.hides))
    where
      differ : Receiving ≡ Saved → ⊥
      differ e = cc

  -- the node as it is after the wake
  pub awake_is : marked l false (record node {
    role = role_woken node.role;
    machine = hidden (woken node.role l node.machine);
  })
      ≡ awake
  awake_is =
      ap (λ (r : Role). marked l false (record node {
        role = role_woken r;
        machine = hidden (woken r l node.machine);
      })) shown.role
      ∙ ap (λ (z : Machine). marked l false (record node { role = Processor; machine = z }))
      (ap hidden (finish_output_is l node.machine out sends) ∙ hidden_still)
      ∙ ap (λ (r : Role). record awake { role = r }) (sym shown.role)

  pub awake_shown : ShowsNode s n plan renamed_to sent awake
  awake_shown =
      record {
        role = shown.role;
        works = shown.works;
        runs_on = (joins m process (LinkOutput l) waits placed.claimed.distinct ls).halted ∙ shown.runs_on;
        size = linked_store.size ∙ shown.size;
        kind = (joins m process (LinkOutput l) waits placed.claimed.distinct ls).kind ∙ shown.kind;
        store = shows_from s n plan.memory store'
            (linked_tells s n plan.memory store store' linked_store
            (tells_from s n plan.memory store shown.size whole shown.store));
        marks = marks_from s s n sent sent m now
            (λ v h. saved_of v (still_there m process (LinkOutput l) waits placed.claimed.distinct ls v h)) input_is
            (λ k e. e) shown.marks.outputs shown.marks.no_successor shown.marks;
        channels = channels_kept s s n named renamed_to node.machine awake.machine (record {
          waits = λ w channel side buffer e. (
            reason_now m process (LinkOutput l) waits placed.claimed.distinct ls w (λ f. no_channel side channel buffer
                (sym (reason_before m process (LinkOutput l) waits placed.claimed.distinct ls)
                ∙ ap (reason_of m) (sym f) ∙ e))
                ∙ e,
            refl,
          );
          waited = λ w channel side buffer e. (
            sym (reason_now m process (LinkOutput l) waits placed.claimed.distinct ls w (λ f. nobody
                (sym (no_reason m process (LinkOutput l) waits placed.claimed.distinct ls)
                ∙ ap (reason_of now) (sym f) ∙ e)))
                ∙ e,
            refl,
          );
          engaged_to = λ k e. e;
          engaged_back = λ k e. e;
          halves = λ c side. refl;
          size = linked_store.size;
          words = λ c h e. lasting_word c h (ap is_lasting e);
        }) shown.channels;
        links = link_awake;
        processes = processes_woken p s s n plan named sent node shown placed process (LinkOutput l) waits ls store'
            flags there.context.lent woken_there;
        choices = choices_stay s s n m.links now.links store store'
            (record { inputs = λ j. inl refl; noticed = λ j x e. noticed_is j }) (λ x h. refl) (λ x h e. e)
            (λ x h. refl) (λ a side. refl)
            (λ j e z. z) (λ j e. refl) linked_store.size lasting_word shown.choices;
      }
    where
      nobody : {X : Type 0} {x : X} → None ≡ Some x → ⊥
      nobody e = cc

  -- so the net is
  pub net_awake : (c : Configuration) → Shows p c s → slice_get p.nodes n ≡ Some plan → node_of c n ≡ Some node
      → Shows p (put_node n (marked l false (record node {
        role = role_woken node.role;
        machine = hidden (woken node.role l node.machine);
      })) c) s
  net_awake c shows planned here =
      net_shown p c s s shows n plan planned node here (marked l false (record node {
        role = role_woken node.role;
        machine = hidden (woken node.role l node.machine);
      })) renamed_to sent (subst (ShowsNode s n plan renamed_to sent) (sym awake_is) awake_shown) (λ q h. refl)
      (own_notices p c s s n plan node _ planned here shows.noticed (record {
        offers = λ j h. h;
        notices = λ j h. sym (noticed_is j) ∙ ap (λ (z : Node). has_noticed z j) (sym awake_is) ∙ h;
      }) (λ q h. refl))

-- wakes of processors
pub wakes_are_seen : WakesAreSeen
wakes_are_seen p c c' s f plan planned shows steady l =
    subst (λ (z : Configuration). Shows p z s) (sym l.after)
    (net_awake p s f.node plan (shows.named f.node) (shows.sent f.node) l.node shown
    ((steady f.node l.node l.copied.node).steady shown.role) f.link l.out l.copied.output l.copied.copied c shows
    planned l.copied.node)
  where
    shown : ShowsNode s f.node plan (shows.named f.node) (shows.sent f.node) l.node
    shown =
        let there = shows.processors f.node plan planned in
        subst (ShowsNode s f.node plan (shows.named f.node) (shows.sent f.node))
        (some_is (sym there.1 ∙ l.copied.node)) there.2
      where
        some_is : {a b : Node} → Some a ≡ Some b → a ≡ b
        some_is e = cc
